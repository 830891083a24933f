use Rattle.std.proofs.Common.{◌≡◌, List, None, Ok, ◌∙◌, ap, arith, sym, refl, rules, subst}
use Rattle.std.specs.Prelude.{All}
use Rattle.orca_base.specs.declared.command.Command.TheVariants as command
use Rattle.orca_base.specs.declared.command.Fault.TheVariants.{Memory}
use Rattle.orca_base.specs.declared.command.Reply.TheVariants.{Framed}
use Rattle.orca_base.specs.declared.event.Event.{Event}
use Rattle.orca_base.specs.Grids.{Sheet}
use Rattle.orca_base.specs.declared.note.Note.{Note}
use Rattle.orca_base.specs.EventRanges.{IsInRange}
use Rattle.orca_base.specs.Ranges.{CarriesFewValues}
use Rattle.orca_base.proofs.RangeFacts.{HasFewValues-in_range}
use Rattle.orca_notes.specs.Device.{Plays}
use Rattle.orca_op.specs.Slate.{Slate, residue}
use Rattle.orca_edit.specs.Machines.{Acts}
use Rattle.orca_edit.specs.Obeying.{MachineState, rule_against}
use Rattle.orca_base.specs.declared.command.Entry.TheVariants as entry
use Rattle.orca_edit.specs.Pieces.{apply}
use Rattle.orca_session.proofs.session.Session.play.Given.{Over}
use Rattle.orca_session.specs.Past.{PastState, machine_of, numbers_of, present}
use Rattle.orca_session.specs.Session.{SessionState}
use Rattle.orca_edit.proofs.RuleLemmas.{has-room}
use Rattle.orca_session.proofs.PayLemmas.{charge-done, charge-memory, cut-kept, entry-frame, kept-done, kept-none, new-plain, pushed-plain}
use Rattle.orca_session.proofs.PriceLemmas.{pays-frame}
use Rattle.orca_session.proofs.SessionLemmas.{acts-frame, acts-given-up}
use Rattle.orca_session.proofs.session.Session.play.Goals as goal

pub push-pushed-requires-clause-room : goal.push-pushed-requires-clause-room
push-pushed-requires-clause-room g c =
    has-room (machine_of c.self.inside.past c.self.inside.clip) command.Frame
    (subst (λ (s : SessionState). rule_against s.machine command.Frame ≡ None) (sym c.self.view_is)
    c.requires.allowed) refl

-- nothing was done
pub returns-in_default-clause-acts : goal.returns-in_default-clause-acts
returns-in_default-clause-acts g c =
    let same : machine_of c.push-pushed.new.self c.self.inside.clip ≡ c.args.self.now.machine =
    ap (λ (p : PastState). machine_of p c.self.inside.clip) c.in_default.ensures.err
    ∙ ap (λ (s : SessionState). s.machine) c.self.view_is in
    rw (same, c.requires.silent)
    (acts-given-up c.args.self.now.machine command.Frame c.requires.allowed refl)

-- the messages are those of the frame
said : (g : Over) (c : goal.After-self-1 g)
    → c.advance.new.messages ≡ (apply (present c.self.inside.past) entry.Frame).messages
unfolding apply
said g c = search rules

-- and so are the notes
sounding : (g : Over) (c : goal.After-self-1 g)
    → c.advance.new.self ≡ (present c.push-pushed.new.self).notes
unfolding apply
sounding g c = search rules

-- each of them carries few values
few : (g : Over) (c : goal.After-self-1 g) → All CarriesFewValues c.advance.new.messages
few g c =
    let events : All IsInRange c.events.result.now =
    subst (λ (es : List Event). All IsInRange es)
    (sym (c.events.ensures.events ∙ ap (λ (d : Slate). d.scan.events) c.in-Ok.ensures.board))
    c.frame.ensures.framed.events in
    c.advance.ensures.few_values (λ k d below. HasFewValues-in_range _ (events k d below))

acts : (g : Over) (c : goal.After-self-1 g)
    → Acts (machine_of c.self.inside.past c.self.inside.clip) command.Frame
    (Ok (Framed c.self.inside.tick)) (machine_of c.push-pushed.new.self c.self.inside.clip)
    c.advance.new.messages
acts g c =
    acts-frame c.self.inside.past c.push-pushed.new.self c.self.inside.clip _ _ c.self.inside.tick
    c.advance.new.messages
    (subst (λ (s : SessionState). rule_against s.machine command.Frame ≡ None) (sym c.self.view_is)
    c.requires.allowed)
    c.in-Ok.ensures.pushed c.self.invariant.next (said g c)
    (subst (λ (notes : List Note). Plays notes c.advance.new.messages
    (present c.push-pushed.new.self).notes) c.self.invariant.sounding
    (subst (λ (notes : List Note). Plays c.self.inside.notes c.advance.new.messages notes)
    (sounding g c) c.advance.ensures.plays))
    (few g c)

pub returns-clause-acts : goal.returns-clause-acts
returns-clause-acts g c = rw (← c.self.view_is) (acts g c)

pub returns-clause-kept : goal.returns-clause-kept
returns-clause-kept g c =
    rw (← c.self.view_is)
    (kept-done (machine_of c.self.inside.past c.self.inside.clip) (numbers_of c.self.inside.past)
    (numbers_of c.push-pushed.new.self) command.Frame (Framed c.self.inside.tick)
    (machine_of c.push-pushed.new.self c.self.inside.clip) c.advance.new.messages (acts g c).obeys
    (c.in-Ok.ensures.numbers
    ∙ pushed-plain c.push-pushed.new.self c.self.inside.clip (numbers_of c.self.inside.past)))

pub returns-clause-price : goal.returns-clause-price
returns-clause-price g c =
    rw (← c.self.view_is)
    (let m : MachineState = machine_of c.self.inside.past c.self.inside.clip in
    charge-done m (numbers_of c.self.inside.past) command.Frame (Framed c.self.inside.tick)
    (machine_of c.push-pushed.new.self c.self.inside.clip) c.advance.new.messages _ _
    (acts g c).obeys
    (omega (
      arith,
      pays-frame c.self.inside.board c.frame.new.board _ (present c.self.inside.past)
          c.args.steps.now c.frame.new.steps c.frame.ensures.framed c.frame.ensures.most
          (sym c.self.invariant.grid) (sym c.self.invariant.next) (sym c.seed.ensures),
      entry-frame m,
      c.in-Ok.ensures.steps,
      ap residue c.in-Ok.ensures.board,
      new-plain c.push-pushed.new.self c.self.inside.clip c.self.inside.past.points.spacing,
    )))

pub returns-in_default-clause-kept : goal.returns-in_default-clause-kept
returns-in_default-clause-kept g c =
    ap numbers_of c.in_default.ensures.err
    ∙ (ap (λ (s : SessionState). s.kept) c.self.view_is
    ∙ kept-none c.args.self.now.machine c.args.self.now.kept command.Frame Memory)

pub returns-in_default-clause-price : goal.returns-in_default-clause-price
returns-in_default-clause-price g c =
    rw (← c.self.view_is)
    (let m : MachineState = machine_of c.self.inside.past c.self.inside.clip in
    let size : c.dims-dims.result ≡ (present c.self.inside.past).sheet.dims =
    c.dims-dims.ensures.size ∙ ap (λ (s : Sheet). s.dims) c.self.invariant.grid in
    omega (
      arith,
      pays-frame c.self.inside.board c.frame.new.board _ (present c.self.inside.past)
          c.args.steps.now c.frame.new.steps c.frame.ensures.framed c.frame.ensures.most
          (sym c.self.invariant.grid) (sym c.self.invariant.next) (sym c.seed.ensures),
      entry-frame m,
      charge-memory m (numbers_of c.self.inside.past) command.Frame,
      c.in_default.ensures.paid,
      cut-kept c.touch_law.ensures.both (present c.self.inside.past) c.frame.new.board.scan.dims
          c.dims-dims.result
          (c.frame.ensures.framed.size ∙ ap (λ (s : Sheet). s.dims) c.self.invariant.grid) size,
    ))

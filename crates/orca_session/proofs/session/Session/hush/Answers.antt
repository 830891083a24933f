use Rattle.std.proofs.Common.{◌≡◌, List, None, Ok, ◌∙◌, ap, arith, sym, refl, subst}
use Rattle.orca_base.specs.declared.command.Command.TheVariants as command
use Rattle.orca_base.specs.declared.command.Fault.TheVariants.{Memory}
use Rattle.orca_base.specs.declared.command.Reply.TheVariants.{Edited}
use Rattle.orca_base.specs.declared.note.Note.{Note}
use Rattle.orca_base.specs.Grids.{Sheet}
use Rattle.orca_edit.specs.Machines.{Acts}
use Rattle.orca_edit.specs.Obeying.{MachineState, rule_against}
use Rattle.orca_edit.specs.Pieces.{Piece}
use Rattle.orca_notes.specs.Device.{Plays}
use Rattle.orca_notes.specs.Sound.{ends}
use Rattle.orca_session.specs.Past.{PastState, machine_of, numbers_of, present}
use Rattle.orca_session.specs.Session.{SessionState}
use Rattle.orca_edit.proofs.RuleLemmas.{has-room}
use Rattle.orca_op.specs.Slate.{Slate, residue}
use Rattle.orca_session.proofs.PayLemmas.{begun-clear, charge-done, charge-memory, cut-kept, entry-hush, kept-done, kept-none, new-plain, pushed-plain}
use Rattle.orca_session.proofs.session.Session.hush.Given.{Over}
use Rattle.orca_session.proofs.SessionLemmas.{acts-given-up, acts-hush, notes-hush}
use Rattle.orca_session.proofs.session.Session.hush.Goals as goal

pub push-pushed-requires-clause-room : goal.push-pushed-requires-clause-room
push-pushed-requires-clause-room g c =
    has-room (machine_of c.self.inside.past c.self.inside.clip) command.Hush
    (subst (λ (s : SessionState). rule_against s.machine command.Hush ≡ None) (sym c.self.view_is)
    c.requires.allowed) refl

-- nothing was done
pub returns-in_default-clause-acts : goal.returns-in_default-clause-acts
returns-in_default-clause-acts g c =
    let same : machine_of c.push-pushed.new.self c.self.inside.clip ≡ c.args.self.now.machine =
    ap (λ (p : PastState). machine_of p c.self.inside.clip) c.in_default.ensures.err
    ∙ ap (λ (s : SessionState). s.machine) c.self.view_is in
    rw (same, c.requires.silent)
    (acts-given-up c.args.self.now.machine command.Hush c.requires.allowed refl)

acts : (g : Over) (c : goal.After-hush g)
    → Acts (machine_of c.self.inside.past c.self.inside.clip) command.Hush (Ok Edited)
    (machine_of c.push-pushed.new.self c.self.inside.clip) c.hush.new.messages
acts g c =
    acts-hush c.self.inside.past c.push-pushed.new.self c.self.inside.clip _ _
    c.hush.new.messages
    (subst (λ (s : SessionState). rule_against s.machine command.Hush ≡ None) (sym c.self.view_is)
    c.requires.allowed)
    c.in-Ok.ensures.pushed
    (c.hush.ensures.messages ∙ ap ends c.self.invariant.sounding)
    (subst (λ (notes : List Note). Plays notes c.hush.new.messages
    (present c.push-pushed.new.self).notes) c.self.invariant.sounding
    (subst (λ (notes : List Note). Plays c.self.inside.notes c.hush.new.messages notes)
    (sym (ap (λ (p : Piece). p.notes) c.in-Ok.ensures.present
    ∙ notes-hush (present c.self.inside.past))) c.hush.ensures.plays))
    c.hush.ensures.few_values

pub returns-clause-acts : goal.returns-clause-acts
returns-clause-acts g c = rw (← c.self.view_is) (acts g c)

pub returns-clause-kept : goal.returns-clause-kept
returns-clause-kept g c =
    rw (← c.self.view_is)
    (kept-done (machine_of c.self.inside.past c.self.inside.clip) (numbers_of c.self.inside.past)
    (numbers_of c.push-pushed.new.self) command.Hush Edited
    (machine_of c.push-pushed.new.self c.self.inside.clip) c.hush.new.messages (acts g c).obeys
    (c.in-Ok.ensures.numbers
    ∙ pushed-plain c.push-pushed.new.self c.self.inside.clip (numbers_of c.self.inside.past)))

pub returns-clause-price : goal.returns-clause-price
returns-clause-price g c =
    rw (← c.self.view_is)
    (let m : MachineState = machine_of c.self.inside.past c.self.inside.clip in
    charge-done m (numbers_of c.self.inside.past) command.Hush Edited
    (machine_of c.push-pushed.new.self c.self.inside.clip) c.hush.new.messages _ _
    (acts g c).obeys
    (omega (
      arith,
      (begun-clear c.listing_law.ensures.begin c.self.inside.board c.begin.new.self
          (present c.self.inside.past).sheet c.begin.ensures.slate c.self.invariant.grid).1,
      c.begin.ensures.steps,
      entry-hush m,
      c.in-Ok.ensures.steps,
      ap residue c.in-Ok.ensures.board,
      new-plain c.push-pushed.new.self c.self.inside.clip c.self.inside.past.points.spacing,
    )))

pub returns-in_default-clause-kept : goal.returns-in_default-clause-kept
returns-in_default-clause-kept g c =
    ap numbers_of c.in_default.ensures.err
    ∙ (ap (λ (s : SessionState). s.kept) c.self.view_is
    ∙ kept-none c.args.self.now.machine c.args.self.now.kept command.Hush Memory)

pub returns-in_default-clause-price : goal.returns-in_default-clause-price
returns-in_default-clause-price g c =
    rw (← c.self.view_is)
    (let m : MachineState = machine_of c.self.inside.past c.self.inside.clip in
    let grid : Sheet = (present c.self.inside.past).sheet in
    let begun = begun-clear c.listing_law.ensures.begin c.self.inside.board c.begin.new.self grid
    c.begin.ensures.slate c.self.invariant.grid in
    let size : c.dims-dims.result ≡ grid.dims =
    c.dims-dims.ensures.size ∙ ap (λ (s : Sheet). s.dims) c.self.invariant.grid in
    omega (
      arith,
      begun.1,
      c.begin.ensures.steps,
      entry-hush m,
      charge-memory m (numbers_of c.self.inside.past) command.Hush,
      c.in_default.ensures.paid,
      cut-kept c.touch_law.ensures.both (present c.self.inside.past) c.begin.new.self.scan.dims
          c.dims-dims.result (ap (λ (d : Slate). d.scan.dims) begun.0) size,
    ))

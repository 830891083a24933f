use Rattle.std.proofs.Common.{◌≡◌, List, None, Ok, ap, arith, sym, ◌∙◌, subst}
use Rattle.orca_base.specs.declared.command.Command.TheVariants as command
use Rattle.orca_base.specs.declared.command.Reply.TheVariants.{Retracted}
use Rattle.orca_base.specs.declared.note.Note.{Note}
use Rattle.orca_edit.specs.Machines.{Acts}
use Rattle.orca_edit.specs.Obeying.{rule_against}
use Rattle.orca_edit.proofs.RuleLemmas.{is-open, obey-retract, some-entry}
use Rattle.orca_notes.specs.Device.{Plays}
use Rattle.orca_notes.specs.Sound.{ends}
use Rattle.orca_session.specs.Past.{machine_of, numbers_of, present}
use Rattle.orca_session.specs.Session.{SessionState}
use Rattle.orca_session.proofs.PayLemmas.{charge-done, kept-done, retract-plain}
use Rattle.orca_session.proofs.SessionLemmas.{retract-parts}
use Rattle.orca_session.proofs.session.Session.retract.Given.{Over}
use Rattle.orca_session.proofs.session.Session.retract.Goals as goal

pub retract-self-inside-requires-clause-within : goal.retract-self-inside-requires-clause-within
retract-self-inside-requires-clause-within g c =
    some-entry (machine_of c.self.inside.past c.self.inside.clip) c.args.moment
    (subst (λ (s : SessionState). rule_against s.machine (command.Retract c.args.moment) ≡ None)
    (sym c.self.view_is) c.requires.allowed)

pub retract-self-inside-requires-clause-free : goal.retract-self-inside-requires-clause-free
retract-self-inside-requires-clause-free g c =
    (is-open (machine_of c.self.inside.past c.self.inside.clip) (command.Retract c.args.moment)
    (subst (λ (s : SessionState). rule_against s.machine (command.Retract c.args.moment) ≡ None)
    (sym c.self.view_is) c.requires.allowed)).sizes

acts : (g : Over) (c : goal.After-hush g)
    → Acts (machine_of c.self.inside.past c.self.inside.clip) (command.Retract c.args.moment)
    (Ok (Retracted c.args.moment))
    (machine_of c.retract-self-inside.new.self c.self.inside.clip) c.hush.new.messages
acts g c = record {
  obeys = obey-retract (machine_of c.self.inside.past c.self.inside.clip) c.args.moment
      (subst (λ (s : SessionState). rule_against s.machine (command.Retract c.args.moment) ≡ None)
      (sym c.self.view_is) c.requires.allowed)
      ∙ retract-parts c.self.inside.past c.retract-self-inside.new.self c.self.inside.clip _ _
      c.args.moment c.hush.new.messages c.retract-self-inside.ensures.retracted
      (c.hush.ensures.messages ∙ ap ends c.self.invariant.sounding);
  plays = subst (λ (notes : List Note). Plays notes c.hush.new.messages
      (present c.retract-self-inside.new.self).notes) c.self.invariant.sounding
      (subst (λ (notes : List Note). Plays c.self.inside.notes c.hush.new.messages notes)
      (sym c.retract-self-inside.ensures.silent) c.hush.ensures.plays);
  few_values = c.hush.ensures.few_values;
}

pub returns-clause-acts : goal.returns-clause-acts
returns-clause-acts g c = rw (← c.self.view_is) (acts g c)

pub returns-clause-kept : goal.returns-clause-kept
returns-clause-kept g c =
    rw (← c.self.view_is)
    (kept-done (machine_of c.self.inside.past c.self.inside.clip) (numbers_of c.self.inside.past)
    (numbers_of c.retract-self-inside.new.self) (command.Retract c.args.moment)
    (Retracted c.args.moment) (machine_of c.retract-self-inside.new.self c.self.inside.clip)
    c.hush.new.messages (acts g c).obeys c.retract-self-inside.ensures.numbers)

pub returns-clause-price : goal.returns-clause-price
returns-clause-price g c =
    rw (← c.self.view_is)
    (charge-done (machine_of c.self.inside.past c.self.inside.clip)
    (numbers_of c.self.inside.past) (command.Retract c.args.moment) (Retracted c.args.moment)
    (machine_of c.retract-self-inside.new.self c.self.inside.clip) c.hush.new.messages _ _
    (acts g c).obeys
    (omega (
      arith,
      c.retract-self-inside.ensures.price,
      retract-plain c.self.inside.past c.retract-self-inside.new.self c.self.inside.clip
          (numbers_of c.self.inside.past) c.args.moment,
    )))

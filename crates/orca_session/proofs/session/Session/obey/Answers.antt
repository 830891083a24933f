use Rattle.std.proofs.Common.{◌≡◌, None, Ok, sym, ◌∙◌, subst}
use Rattle.orca_base.specs.declared.command.Command.{Command}
use Rattle.orca_base.specs.declared.command.Command.TheVariants as command
use Rattle.orca_edit.specs.Obeying.{rule_against}
use Rattle.orca_edit.proofs.RuleLemmas.{obey-rewind, some-moment}
use Rattle.orca_base.specs.declared.command.Fault.TheVariants.{Refused}
use Rattle.orca_session.proofs.PayLemmas.{charge-jump, kept-jump, kept-none}
use Rattle.orca_session.proofs.SessionLemmas.{acts-refused, acts-silent}
use Rattle.orca_session.proofs.session.Session.obey.Goals as goal

pub returns-in-Some-clause-acts : goal.returns-in-Some-clause-acts
returns-in-Some-clause-acts g c =
    acts-refused c.args.self.now.machine c.args.command.now c.in-Some.rule c.args.messages.now
    c.requires.silent (sym c.rule_against.ensures.rule ∙ c.in-Some.is)

pub jump-requires-clause-within : goal.jump-requires-clause-within
jump-requires-clause-within g c =
    some-moment c.args.self.now.machine c.in-Rewind.moment
    (subst (λ (x : Command). rule_against c.args.self.now.machine x ≡ None) c.in-Rewind.is
    (sym c.rule_against.ensures.rule ∙ c.in_default.is))

pub returns-in-Rewind-clause-acts : goal.returns-in-Rewind-clause-acts
returns-in-Rewind-clause-acts g c =
    let allowed = subst (λ (x : Command). rule_against c.args.self.now.machine x ≡ None)
    c.in-Rewind.is (sym c.rule_against.ensures.rule ∙ c.in_default.is) in
    rw c.in-Rewind.is
    (record {
      obeys = obey-rewind c.args.self.now.machine c.in-Rewind.moment allowed
          ∙ c.jump.ensures.jumped;
      plays = c.jump.ensures.plays;
      few_values = c.jump.ensures.few_values;
    })

pub returns-in-Redo-clause-acts : goal.returns-in-Redo-clause-acts
returns-in-Redo-clause-acts g c =
    rw c.in-Redo.is
    (acts-silent c.args.self.now.machine c.redo.new.self.machine command.Redo (Ok c.redo.result)
    c.args.messages.now c.requires.silent c.redo.ensures.obeys c.redo.ensures.notes)

pub returns-in-Clip-clause-acts : goal.returns-in-Clip-clause-acts
returns-in-Clip-clause-acts g c =
    rw c.in-Clip.is
    (acts-silent c.args.self.now.machine c.clip.new.self.machine
    (command.Clip c.in-Clip.y c.in-Clip.x c.in-Clip.glyph) c.clip.result c.args.messages.now
    c.requires.silent c.clip.ensures.obeys c.clip.ensures.notes)

pub returns-in_default-command : goal.returns-in_default-command
returns-in_default-command g c = record {
  acts = acts-silent c.args.self.now.machine c.edit.new.self.machine c.args.command.now
      c.edit.result c.args.messages.now c.requires.silent c.edit.ensures.obeys c.edit.ensures.notes;
  kept = c.edit.ensures.kept;
  price = c.edit.ensures.price;
}

pub returns-in-Some-clause-kept : goal.returns-in-Some-clause-kept
returns-in-Some-clause-kept g c =
    kept-none c.args.self.now.machine c.args.self.now.kept c.args.command.now
    (Refused c.in-Some.rule)

pub returns-in-Rewind-clause-kept : goal.returns-in-Rewind-clause-kept
returns-in-Rewind-clause-kept g c =
    let allowed = subst (λ (x : Command). rule_against c.args.self.now.machine x ≡ None)
    c.in-Rewind.is (sym c.rule_against.ensures.rule ∙ c.in_default.is) in
    rw c.in-Rewind.is
    (kept-jump c.args.self.now.machine c.args.self.now.kept c.jump.new.self.kept
    (command.Rewind c.in-Rewind.moment) c.in-Rewind.moment c.jump.result c.jump.new.self.machine
    c.jump.new.messages (obey-rewind c.args.self.now.machine c.in-Rewind.moment allowed)
    c.jump.ensures.jumped c.jump.ensures.kept)

pub returns-in-Rewind-clause-price : goal.returns-in-Rewind-clause-price
returns-in-Rewind-clause-price g c =
    let allowed = subst (λ (x : Command). rule_against c.args.self.now.machine x ≡ None)
    c.in-Rewind.is (sym c.rule_against.ensures.rule ∙ c.in_default.is) in
    rw c.in-Rewind.is
    (charge-jump c.args.self.now.machine c.args.self.now.kept
    (command.Rewind c.in-Rewind.moment) c.in-Rewind.moment c.jump.result c.jump.new.self.machine
    c.jump.new.messages _ _ (obey-rewind c.args.self.now.machine c.in-Rewind.moment allowed)
    c.jump.ensures.jumped c.jump.ensures.price)

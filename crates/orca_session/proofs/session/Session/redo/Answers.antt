use Rattle.std.proofs.Common.{◌≡◌, ℕ, [], None, Ok, ap, arith, sym, ◌∙◌, subst}
use Rattle.orca_base.specs.declared.command.Command.TheVariants as command
use Rattle.orca_base.specs.declared.command.Reply.TheVariants.{Redone}
use Rattle.orca_base.specs.Histories.{group_of}
use Rattle.orca_history.specs.Trails.{Trail}
use Rattle.orca_edit.specs.Machines.{obeyed}
use Rattle.orca_edit.specs.Obeying.{MachineState, obey, rule_against}
use Rattle.orca_edit.specs.Prices.{redo_price, kept_redone}
use Rattle.orca_edit.proofs.RuleLemmas.{obey-redo}
use Rattle.orca_session.specs.Past.{machine_of, numbers_of, plain_machine}
use Rattle.orca_session.specs.Session.{SessionState}
use Rattle.orca_session.proofs.ObeyLemmas.{group-room, some-tail}
use Rattle.orca_session.proofs.PayLemmas.{charge-done, kept-done, redo-plain}
use Rattle.orca_session.proofs.SessionLemmas.{redo-parts}
use Rattle.orca_session.proofs.session.Session.redo.Given.{Over}
use Rattle.orca_session.proofs.session.Session.redo.Goals as goal

pub redo-self-inside-requires-clause-some : goal.redo-self-inside-requires-clause-some
redo-self-inside-requires-clause-some g c =
    some-tail (machine_of c.self.inside.past c.self.inside.clip)
    (subst (λ (s : SessionState). rule_against s.machine command.Redo ≡ None) (sym c.self.view_is)
    c.requires.allowed)

pub redo-self-inside-requires-clause-room : goal.redo-self-inside-requires-clause-room
redo-self-inside-requires-clause-room g c =
    group-room (machine_of c.self.inside.past c.self.inside.clip)
    (subst (λ (s : SessionState). rule_against s.machine command.Redo ≡ None) (sym c.self.view_is)
    c.requires.allowed)

-- as many entries come back as the first group of the tail has
group : (g : Over) (c : goal.After-self-1 g)
    → c.group-entries.result ≡ group_of c.self.inside.past.trail.tail
group g c =
    c.group-entries.ensures.group ∙ ap (λ (t : Trail). group_of t.tail) c.history.ensures

done : (g : Over) (c : goal.After-self-1 g)
    → obey (machine_of c.self.inside.past c.self.inside.clip) command.Redo
    ≡ obeyed (Ok (Redone c.group-entries.result))
    (machine_of c.redo-self-inside.new.self c.self.inside.clip) []
done g c =
    obey-redo (machine_of c.self.inside.past c.self.inside.clip)
    (subst (λ (s : SessionState). rule_against s.machine command.Redo ≡ None) (sym c.self.view_is)
    c.requires.allowed)
    ∙ (redo-parts c.self.inside.past c.redo-self-inside.new.self c.self.inside.clip _ _
    c.redo-self-inside.ensures.redone
    ∙ ap (λ (n : ℕ). obeyed (Ok (Redone n))
    (machine_of c.redo-self-inside.new.self c.self.inside.clip) [])
    (sym (group g c)))

pub returns-clause-obeys : goal.returns-clause-obeys
returns-clause-obeys g c = rw (← c.self.view_is) (done g c)

pub returns-clause-kept : goal.returns-clause-kept
returns-clause-kept g c =
    rw (← c.self.view_is)
    (kept-done (machine_of c.self.inside.past c.self.inside.clip) (numbers_of c.self.inside.past)
    (numbers_of c.redo-self-inside.new.self) command.Redo (Redone c.group-entries.result)
    (machine_of c.redo-self-inside.new.self c.self.inside.clip) [] (done g c)
    (c.redo-self-inside.ensures.numbers
    ∙ ap (kept_redone (machine_of c.redo-self-inside.new.self c.self.inside.clip)
    (numbers_of c.self.inside.past)) (sym (group g c))))

pub returns-clause-price : goal.returns-clause-price
returns-clause-price g c =
    rw (← c.self.view_is)
    (let after : MachineState = machine_of c.redo-self-inside.new.self c.self.inside.clip in
    charge-done (machine_of c.self.inside.past c.self.inside.clip)
    (numbers_of c.self.inside.past) command.Redo (Redone c.group-entries.result) after [] _ _
    (done g c)
    (omega (
      arith,
      c.redo-self-inside.ensures.price,
      redo-plain c.redo-self-inside.new.self c.self.inside.clip (numbers_of c.self.inside.past)
          c.group-entries.result,
      ap (redo_price (plain_machine c.redo-self-inside.new.self) (numbers_of c.self.inside.past))
          (group g c),
    )))

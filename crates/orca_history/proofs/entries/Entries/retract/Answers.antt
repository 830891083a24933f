use Rattle.std.proofs.Common.{◌≡◌, ℕ, ◌<◌, List, [], ◌∷◌, ◌++◌, length, arith, ap, ◌∙◌}
use Rattle.std.specs.List.{remove}
use Rattle.orca_base.specs.declared.command.Entry.{Entry}
use Rattle.orca_base.specs.declared.command.Entry.TheVariants.{Hush}
use Rattle.orca_history.specs.Entries.{Lists}
use Rattle.orca_history.proofs.Room.{lists-pushed, room-retracted}
use Rattle.orca_history.proofs.entries.Entries.retract.Goals as goal

pub invariant_of-self : goal.invariant_of-self
invariant_of-self c =
    let es : List Entry = c.self.inside.done.items in
    let m : ℕ = c.args.moment in
    let below : m < length es =
    omega (arith, c.requires, ap (λ (l : Lists). length l.entries) c.self.view_is) in
    let entries : c.push_reserved.new.self.items ≡ remove es m ++ Hush ∷ [] =
    c.push_reserved.ensures.items
    ∙ ap (λ (l : List Entry). l ++ Hush ∷ []) c.remove.ensures.items in
    rw (
      entries,
      c.clear.ensures.items,
      c.push_reserved.ensures.capacity,
      c.remove.ensures.capacity,
      c.clear.ensures.capacity,
    ) (
      lists-pushed (remove es m ++ Hush ∷ []),
      room-retracted es m _ _ _ below c.self.invariant.1,
    )

pub returns-clause-lists : goal.returns-clause-lists
returns-clause-lists c = (invariant_of-self c).0

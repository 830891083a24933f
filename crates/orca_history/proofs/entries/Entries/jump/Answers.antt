use Rattle.std.proofs.Common.{◌≡◌, ℕ, ◌+◌, ◌<◌, List, [], ◌∷◌, ◌++◌, length, take, drop, reverse, arith, ap, ◌∙◌, length-append}
use Rattle.std.proofs.lemmas.List.{length-reverse}
use Rattle.orca_base.specs.declared.command.Entry.{Entry}
use Rattle.orca_base.specs.declared.command.Entry.TheVariants.{Hush}
use Rattle.orca_base.specs.Histories.{done_of}
use Rattle.orca_history.specs.Entries.{AreEntries, Lists}
use Rattle.orca_history.proofs.Room.{lists-jumped, room-jumped}
use Rattle.orca_history.proofs.entries.Entries.jump.Goals as goal

pub invariant_of-self : goal.invariant_of-self
invariant_of-self c =
    let es : List Entry = c.self.inside.done.items in
    let undone : List Entry = c.self.inside.undone.items in
    let m : ℕ = c.args.moment in
    let had : AreEntries c.self.inside = c.self.invariant in
    let below : m < length es =
    omega (arith, c.requires, ap (λ (l : Lists). length l.entries) c.self.view_is) in
    let entries : c.push_reserved.new.self.items ≡ take m es ++ Hush ∷ [] =
    c.push_reserved.ensures.items
    ∙ ap (λ (l : List Entry). l ++ Hush ∷ []) c.cut.ensures.done in
    let long : length c.cut.new.undone.items ≡ length (done_of (drop m es)) + length undone =
    omega (
      arith,
      length-reverse c.cut.new.undone.items,
      ap length c.cut.ensures.undone,
      length-append (done_of (drop m es)) (reverse undone),
      length-reverse undone,
    ) in (
      rw (entries, c.cut.ensures.undone) (lists-jumped es (reverse undone) m had.0.done),
      rw (
        entries,
        long,
        c.push_reserved.ensures.capacity,
        c.cut.ensures.done_room,
        c.cut.ensures.undone_room,
      )
          (room-jumped es m (length undone) _ _ below
          (λ some. had.0.hushed (omega (arith, some, length-reverse undone))) had.1),
    )

pub returns-clause-lists : goal.returns-clause-lists
returns-clause-lists c = (invariant_of-self c).0

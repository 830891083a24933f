use Rattle.std.proofs.Common.{◌≡◌, ℕ, ◌-◌, ◌<◌, ◌≤◌, List, [], ◌∷◌, ◌++◌, length, take, reverse, arith, ap, ◌∙◌, append_assoc}
use Rattle.std.proofs.lemmas.List.{length-drop, length-reverse, length-take-le}
use Rattle.std.proofs.lemmas.Option.{slice_get_within}
use Rattle.orca_base.specs.declared.command.Entry.{Entry}
use Rattle.orca_base.specs.declared.command.Entry.TheVariants.{Hush}
use Rattle.orca_history.specs.Entries.{AreEntries, Lists}
use Rattle.orca_history.proofs.Room.{lists-redone, room-redone}
use Rattle.orca_history.proofs.entries.Entries.redo.Goals as goal

pub invariant_of-self : goal.invariant_of-self
invariant_of-self c =
    let es : List Entry = c.self.inside.done.items in
    let undone : List Entry = c.self.inside.undone.items in
    let tail : List Entry = reverse undone in
    let g : ℕ = c.group-group.result in
    let had : AreEntries c.self.inside = c.self.invariant in
    let same : length tail ≡ length c.args.self.now.tail =
    ap (λ (l : Lists). length l.tail) c.self.view_is in
    let some : 0 < length es =
    omega (
      arith,
      slice_get_within es (length es - 1) Hush
          (had.0.hushed (omega (arith, same, c.requires.some))),
    ) in
    let within : g ≤ length tail = omega (arith, c.group-group.ensures.most, same) in
    let entries : c.push_reserved.new.self.items
    ≡ take (length es - 1) es ++ (take g tail ++ Hush ∷ []) =
    c.push_reserved.ensures.items
    ∙ (ap (λ (l : List Entry). l ++ Hush ∷ []) c.bring_back.ensures.done
    ∙ (ap (λ (l : List Entry). (l ++ take g tail) ++ Hush ∷ [])
    (c.pop.ensures.rest ∙ ap (λ (k : ℕ). take k es) (omega arith))
    ∙ append_assoc (take (length es - 1) es) (take g tail) (Hush ∷ []))) in
    let left : length c.bring_back.new.undone.items ≡ length undone - g =
    omega (
      arith,
      length-reverse c.bring_back.new.undone.items,
      ap length c.bring_back.ensures.undone,
      length-drop g tail,
      length-reverse undone,
    ) in (
      rw (entries, c.bring_back.ensures.undone) (lists-redone es tail g had.0.done),
      rw (
        entries,
        c.push_reserved.ensures.capacity,
        c.bring_back.ensures.done_room,
        c.pop.ensures.capacity,
        c.bring_back.ensures.undone_room,
      )
          (room-redone es (take g tail) (length undone) _ _ _ some had.1
          (omega (arith, left, length-take-le g tail within, length-reverse undone, within))),
    )

pub returns-clause-lists : goal.returns-clause-lists
returns-clause-lists c = (invariant_of-self c).0

use Rattle.std.proofs.Common.{◌≡◌, true, false, subst, arith}
use Rattle.std.specs.Prelude.{◌||◌}
use Rattle.orca_course.specs.declared.item.Losses.{Losses}
use Rattle.orca_player.proofs.RoomLemmas.{on_removed, room_stays}
use Rattle.orca_player.proofs.room.take_away.Goals as goal
use Rattle.orca_player.proofs.room.take_away.Goals.{then-losses, else-losses}

pub returns-then-stays-clause-left : goal.returns-then-stays-clause-left
returns-then-stays-clause-left g c =
    let stays : (c.losses.result.unstored || c.args.loose) ≡ true =
    elim c.if-losses.branch [
      | then-losses w ↦ grind (arith, w.if-losses, w.stays-is, c.if-stays.true)
      | else-losses w ↦ grind (arith, w.if-losses, w.stays-is, c.if-stays.true)
    ] in
    room_stays _ _ _
    (subst (λ (came : Losses). (came.unstored || c.args.loose) ≡ true) c.losses.ensures stays)

pub returns-clause-left : goal.returns-clause-left
returns-clause-left g c =
    let goes : (c.losses.result.unstored || c.args.loose) ≡ false =
    elim c.if-losses.branch [
      | then-losses w ↦ grind (arith, w.if-losses, w.stays-is, c.if-stays.false)
      | else-losses w ↦ grind (arith, w.if-losses, w.stays-is, c.if-stays.false)
    ] in
    on_removed c.remove.result c.args.loose
    (subst (λ (came : Losses). (came.unstored || c.args.loose) ≡ false) c.losses.ensures goes)
    c.remove.ensures

use Rattle.orca_course.proofs.DoingLemmas.{does_err, far_cut, far_more, far_stop}
use Rattle.orca_course.proofs.SeatLemmas.{seated_items}
use Rattle.orca_course.proofs.polling.give_items.Goals as goal

pub give-requires : goal.give-requires
give-requires g c =
    let so_far = c.loop-index.invariant in
    seated_items g.P.Performer.part c.is_deaf.ensures c.is_steady.ensures so_far.past so_far.did c.requires

pub returns-in_err-ending : goal.returns-in_err-ending
returns-in_err-ending g c =
    does_err _ _ c.from_residual.ensures.1
    (far_cut _ _ c.item_at.ensures c.loop-index.invariant c.in_err-ending.ensures)

pub returns-in-Some : goal.returns-in-Some
returns-in-Some g c =
    far_stop _ _ c.item_at.ensures c.loop-index.invariant (rw c.in-Some.is at c.in_ok-ending.ensures)

pub loop-index-preserved : goal.loop-index-preserved
loop-index-preserved g c =
    far_more _ _ c.item_at.ensures c.loop-index.invariant (rw c.in_default.is at c.in_ok-ending.ensures)

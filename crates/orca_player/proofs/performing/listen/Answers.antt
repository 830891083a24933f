use Rattle.orca_player.proofs.RoomLemmas.{missed_kept, missed_left, unlistened}
use Rattle.orca_player.proofs.performing.listen.Goals as goal

pub returns-in-Ok-clause-ends : goal.returns-in-Ok-clause-ends
returns-in-Ok-clause-ends g c = λ next.
    missed_left _ next (rw c.in-Ok-None.field-0-is at c.in-Ok-None.ensures.called)
    c.in-Ok.ensures.left

pub returns-in-Err-leave_room-clause-ends : goal.returns-in-Err-leave_room-clause-ends
returns-in-Err-leave_room-clause-ends g c = λ next.
    missed_kept _ next (rw c.in-Ok-None.field-0-is at c.in-Ok-None.ensures.called)
    c.in-Err-leave_room.ensures.refused.0

pub returns-in-Err-clause-ends : goal.returns-in-Err-clause-ends
returns-in-Err-clause-ends g c = λ next. unlistened _ _ _ next c.in-Err.ensures.called.called.0

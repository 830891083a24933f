use Rattle.std.proofs.Common.{refl}
use Rattle.orca_course.proofs.WorldLemmas.{made_none}
use Rattle.orca_player.proofs.room.leave_room.Goals as goal

pub returns-in-None-clause-left : goal.returns-in-None-clause-left
returns-in-None-clause-left g c = rw c.in-None.is (made_none _, refl)

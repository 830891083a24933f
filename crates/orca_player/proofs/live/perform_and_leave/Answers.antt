use Rattle.orca_live.proofs.LeavingLemmas.{live_ends_well}
use Rattle.orca_player.proofs.RoomLemmas.{broke_left, lasted_kept, lasted_left}
use Rattle.orca_player.proofs.live.perform_and_leave.Goals as goal

pub returns-in_default : goal.returns-in_default
returns-in_default g c = broke_left _ c.in_default.ensures.broke

pub returns-in-Ok-leave_room : goal.returns-in-Ok-leave_room
returns-in-Ok-leave_room g c =
    rw (c.settled.ensures, c.status_of_ending.ensures)
    (lasted_left _ _ c.requires.begins c.requires.residue c.in-Ok.ensures.lasted
    live_ends_well.silent (rw c.is_loose.ensures at c.in-Ok-leave_room.ensures.left))

pub returns-in-Err : goal.returns-in-Err
returns-in-Err g c =
    lasted_kept _ _ c.requires.begins c.requires.residue c.in-Ok.ensures.lasted
    live_ends_well.silent c.in-Err.ensures.refused

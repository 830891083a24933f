use Rattle.std.proofs.Common.{refl}
use Rattle.orca_player.proofs.RecoveryLemmas.{grid_read, grid_unread, parts_read}
use Rattle.orca_player.proofs.recovery.read_grid.Goals as goal

pub returns-in-Ok : goal.returns-in-Ok
returns-in-Ok g c =
    parts_read _ _ _ refl (grid_read _ _ _ _ c.in-Ok.ensures.found c.read_script.ensures)

pub returns-in-Err : goal.returns-in-Err
returns-in-Err g c =
    rw c.refused_status.ensures
    (parts_read _ _ _ refl
    (grid_unread _ _ _ _ _ _ refl c.in-Err.ensures.refused c.in-Err.ensures.only_memory))

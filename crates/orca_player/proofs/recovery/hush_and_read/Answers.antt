use Rattle.orca_player.proofs.RecoveryLemmas.{by_hush, hush_cut}
use Rattle.orca_player.proofs.recovery.hush_and_read.Goals as goal

pub returns-in-Ok : goal.returns-in-Ok
returns-in-Ok g c = by_hush _ _ c.in-Ok.ensures c.read_room.ensures

pub returns-in-Err : goal.returns-in-Err
returns-in-Err g c = hush_cut _ _ c.in-Err.ensures

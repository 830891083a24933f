use Rattle.std.proofs.Common.{refl}
use Rattle.orca_player.specs.Outlines.{migrated, reading_outline}
use Rattle.orca_player.proofs.CameLemmas.{came_stopped}
use Rattle.orca_player.proofs.migration.check_and_save.Goals as goal

pub returns-in-Err : goal.returns-in-Err
unfolding migrated reading_outline
returns-in-Err g c = rw c.in-Err.ensures.fault
    (record { came = came_stopped _ _ (refl, refl); reads = λ other. tt })

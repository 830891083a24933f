use Rattle.std.proofs.Common.{refl}
use Rattle.orca_player.specs.Outlines.{reading_outline}
use Rattle.orca_player.proofs.CameLemmas.{came_stopped}
use Rattle.orca_player.proofs.replay.follow.Goals as goal

pub returns-in-Err : goal.returns-in-Err
unfolding reading_outline
returns-in-Err g c = rw c.in-Err.ensures.fault (came_stopped _ _ (refl, refl))

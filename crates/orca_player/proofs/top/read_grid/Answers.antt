use Rattle.std.proofs.Common.{refl}
use Rattle.orca_player.specs.Outlines.{grid_outline}
use Rattle.orca_player.proofs.TopLemmas.{grid_refused}
use Rattle.orca_player.proofs.top.read_grid.Goals as goal

pub returns-in-Ok : goal.returns-in-Ok
unfolding grid_outline
returns-in-Ok g c = rw c.in-Ok.ensures.found c.do_work.ensures

pub returns-in-Err : goal.returns-in-Err
returns-in-Err g c =
    rw c.refused_status.ensures
    (grid_refused _ _ _ _ _ _ refl c.in-Err.ensures.refused c.in-Err.ensures.only_memory)

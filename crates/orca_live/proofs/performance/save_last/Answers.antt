use Rattle.orca_course.proofs.DoingLemmas.{does_then}
use Rattle.orca_live.specs.Performing.{saves_course}
use Rattle.orca_live.proofs.performance.save_last.Goals as goal

pub returns : goal.returns
unfolding saves_course
returns g c = does_then _ c.in_ok-save_last_grid.ensures c.save_last_script.ensures

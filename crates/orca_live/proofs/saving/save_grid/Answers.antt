use Rattle.std.proofs.Common.{arith, false}
use Rattle.std.proofs.lemmas.Grind.{common_steps}
use Rattle.orca_live.specs.Performing.{save_course}
use Rattle.orca_live.specs.States.{live_state}
use Rattle.orca_live.proofs.DoneLemmas.{saved_did}
use Rattle.orca_live.proofs.saving.save_grid.Goals as goal

pub returns : goal.returns
unfolding save_course
returns g c =
    saved_did _ _ _ (live_state g.M.Machine c.args.live.now) false _ _ (grind (arith, common_steps)) c.save.ensures

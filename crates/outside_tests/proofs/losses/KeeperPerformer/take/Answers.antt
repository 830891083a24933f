use Rattle.std.proofs.Common.{[], ◌∷◌, refl}
use Rattle.std.specs.Prelude.{Err}
use Rattle.orca_course.proofs.CallLemmas.{calls_one, does_calls}
use Rattle.orca_course.proofs.DoingLemmas.{does_err, does_owing}
use Rattle.outside_tests.specs.Keeping.{keeper_course}
use Rattle.outside_tests.proofs.losses.KeeperPerformer.take.Goals as goal

pub returns-in_err-save-in-Byte : goal.returns-in_err-save-in-Byte
unfolding keeper_course
returns-in_err-save-in-Byte g c =
    rw c.in-Byte.is
    (does_err _ _ c.from_residual.ensures.1
    (does_owing 0 (Err _)
    (does_calls _ (Err _) tt refl (calls_one (Err _) c.in_err-save-in-Byte.ensures))))

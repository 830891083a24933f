use Rattle.std.proofs.Common.{refl}
use Rattle.orca_course.proofs.CallLemmas.{calls_err, calls_given_up, calls_one, so_none, so_over}
use Rattle.orca_player.proofs.recovery.save_script.Goals as goal

pub returns-in_err-print_sound-in-Some-clause-called :
    goal.returns-in_err-print_sound-in-Some-clause-called
returns-in_err-print_sound-in-Some-clause-called g c =
    calls_err {S = Unit {0}} _ _ c.from_residual.ensures.1 (calls_given_up _ _)

pub returns-in-None-clause-called : goal.returns-in-None-clause-called
returns-in-None-clause-called g c = rw c.in-None.is (so_over tt refl (so_none _ refl))

pub returns-in_ok-print_sound-in-Some-clause-called :
    goal.returns-in_ok-print_sound-in-Some-clause-called
returns-in_ok-print_sound-in-Some-clause-called g c =
    rw c.in-Some.is
    (calls_one _ (rw (
      c.as_slice.ensures.value,
      c.in_ok-print_sound-in-Some.ensures.printed,
      c.new-script.ensures.items,
    ) at c.save.ensures))

use Rattle.std.proofs.Common.{refl}
use Rattle.orca_course.proofs.CallLemmas.{calls_err, calls_given_up, so_more, so_none}
use Rattle.orca_player.proofs.CameLemmas.{calls_last}
use Rattle.orca_player.proofs.recovery.save_both.Goals as goal

pub returns-in_err-print-clause-called : goal.returns-in_err-print-clause-called
returns-in_err-print-clause-called g c =
    calls_err {S = Unit {0}} _ _ c.from_residual.ensures.1 (calls_given_up _ _)

pub returns-clause-called : goal.returns-clause-called
returns-clause-called g c =
    calls_last _ _ (so_more _ _ refl (so_none _ refl) (rw (
      c.as_slice.ensures.value,
      c.in_ok-print.ensures.ok,
      c.new-text.ensures.items,
      c.is_shown.ensures,
    ) at c.in_ok-save.ensures.called))
    c.save_script.ensures.called

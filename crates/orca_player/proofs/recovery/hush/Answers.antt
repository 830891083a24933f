use Rattle.std.proofs.Common.{refl}
use Rattle.orca_course.proofs.CallLemmas.{calls_err, so_cut, so_more, so_none}
use Rattle.orca_player.proofs.CameLemmas.{calls_last}
use Rattle.orca_player.proofs.recovery.hush.Goals as goal

pub returns-in_err-attach : goal.returns-in_err-attach
returns-in_err-attach g c =
    calls_err _ _ c.from_residual.ensures.1
    (so_cut _ _ refl (so_none _ refl) c.in_err-attach.ensures.called)

pub returns : goal.returns
returns g c =
    calls_last _ _ (so_more _ _ refl (so_none _ refl) c.in_ok-attach.ensures.called.called)
    c.end_named.ensures

use Rattle.std.proofs.Common.{refl}
use Rattle.orca_course.proofs.CallLemmas.{calls_err, so_cut, so_more, so_none}
use Rattle.orca_player.proofs.CameLemmas.{calls_last}
use Rattle.orca_player.proofs.opening.attach_all.Goals as goal

pub returns-in_err-attach-2-clause-called : goal.returns-in_err-attach-2-clause-called
returns-in_err-attach-2-clause-called g c =
    calls_err _ _ c.from_residual-in_err-attach-2.ensures.1
    (so_cut _ _ refl (so_more _ _ refl (so_none _ refl) c.in_ok-attach.ensures.called.called)
    c.in_err-attach-2.ensures.called)

pub returns-clause-called : goal.returns-clause-called
returns-clause-called g c =
    calls_last _ _
    (so_more _ _ refl (so_more _ _ refl (so_none _ refl) c.in_ok-attach.ensures.called.called)
    c.in_ok-attach-2.ensures.called.called) c.attach-3.ensures.called

pub returns-in_err-attach-clause-called : goal.returns-in_err-attach-clause-called
returns-in_err-attach-clause-called g c =
    calls_err _ _ c.from_residual.ensures.1
    (so_cut _ _ refl (so_none _ refl) c.in_err-attach.ensures.called)

use Rattle.std.proofs.Common.{ap}
use Rattle.std.specs.Prelude.{Ok, Err}
use Rattle.orca_course.proofs.CallLemmas.{calls_owing}
use Rattle.orca_course.proofs.DoingLemmas.{does_err, does_owing}
use Rattle.orca_concert.proofs.CommandLemmas.{close_cut, close_done}
use Rattle.orca_concert.proofs.concert.close.Goals as goal

pub returns-in_err-hand_messages : goal.returns-in_err-hand_messages
returns-in_err-hand_messages g c =
    does_err _ _ c.from_residual.ensures.1
    (rw c.close.ensures.residue
    (close_cut g.R.Report.manner _
    (rw (← c.as_slice-messages.ensures.messages) at c.close.ensures.closes) _ _
    (λ is. c.in_err-hand_messages.ensures.in_send (ap Err is))
    (calls_owing _ (Err _) (rw c.hands.ensures at c.in_err-hand_messages.ensures.called))))

pub returns : goal.returns
returns g c =
    rw (c.close.ensures.residue, c.close.ensures.kept)
    (close_done g.R.Report.manner _
    (rw (← c.as_slice-messages.ensures.messages) at c.close.ensures.closes)
    (calls_owing _ (Ok _) (rw c.hands.ensures at c.in_ok-hand_messages.ensures.called))
    (does_owing _ _ (c.tell.ensures _ _)))

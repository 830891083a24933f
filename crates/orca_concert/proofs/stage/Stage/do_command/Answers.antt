use Rattle.std.proofs.Common.{ap}
use Rattle.std.specs.Prelude.{Ok, Err}
use Rattle.orca_course.proofs.CallLemmas.{calls_owing}
use Rattle.orca_course.proofs.DoingLemmas.{does_err, does_owing}
use Rattle.orca_concert.proofs.CommandLemmas.{command_cut, command_done, command_given_up}
use Rattle.orca_concert.proofs.stage.Stage.do_command.Goals as goal

pub returns-in_err-answer : goal.returns-in_err-answer
returns-in_err-answer g c =
    let acted = c.act-acted.ensures in
    does_err _ _ c.from_residual.ensures.1
    (command_given_up g.R.Report.manner _ _ _ c.act-acted.result acted.acts acted.kept acted.made
    acted.sated _ c.in_err-answer.ensures)

pub returns-in_err-hand_messages : goal.returns-in_err-hand_messages
returns-in_err-hand_messages g c =
    let acted = c.act-acted.ensures in
    does_err _ _ c.from_residual-in_err-hand_messages.ensures.1
    (command_cut g.R.Report.manner _ _ _ c.act-acted.result
    (rw (← c.as_slice-messages.ensures.messages) at acted.acts) acted.kept acted.made acted.sated
    c.in_ok-answer.ensures _ _ (λ is. c.in_err-hand_messages.ensures.in_send (ap Err is))
    (rw c.hands.ensures at (calls_owing (g.M.Machine.residue c.act-acted.new.machine) (Err _)
    c.in_err-hand_messages.ensures.called)))

pub returns : goal.returns
returns g c =
    let acted = c.act-acted.ensures in
    rw c.count.ensures
    (command_done g.R.Report.manner _ _ _ c.act-acted.result
    (rw (← c.as_slice-messages.ensures.messages) at acted.acts) acted.kept acted.made acted.sated
    c.in_ok-answer.ensures
    (rw c.hands.ensures at (calls_owing (g.M.Machine.residue c.act-acted.new.machine) (Ok _)
    c.in_ok-hand_messages.ensures.called))
    (does_owing _ _ (c.tell.ensures _ _)))

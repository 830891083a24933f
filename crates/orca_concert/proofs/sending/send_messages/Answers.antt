use Rattle.std.proofs.Common.{ap, refl}
use Rattle.std.proofs.lemmas.List.{drop_all}
use Rattle.orca_course.specs.Acts.{gives}
use Rattle.orca_course.proofs.CallLemmas.{calls_err, calls_one, so_cut, so_more, so_none, so_over}
use Rattle.orca_send.specs.Sending.{sends_of, sent_of}
use Rattle.orca_concert.proofs.SendLemmas.{sends_more}
use Rattle.orca_concert.proofs.sending.send_messages.Goals as goal

pub loop-message-init : goal.loop-message-init
loop-message-init g c = so_none _ refl

pub loop-message-preserved : goal.loop-message-preserved
loop-message-preserved g c =
    so_more _ _ (sends_more sent_of _ _ _ c.loop-message-test.true c.message-item.is)
    c.loop-message.invariant c.in_ok-send_message.ensures.called.called

pub returns-in_err-send_message-clause-called : goal.returns-in_err-send_message-clause-called
returns-in_err-send_message-clause-called g c =
    calls_err _ _ c.from_residual.ensures.1
    (so_cut _ _ (sends_more sent_of _ _ _ c.loop-message-test.true c.message-item.is)
    c.loop-message.invariant (calls_one _ c.in_err-send_message.ensures.called))

pub returns-clause-called : goal.returns-clause-called
returns-clause-called g c =
    so_over _ (ap (λ ms. gives (sends_of ms)) (drop_all _ _ c.loop-message-test.false))
    c.loop-message.invariant

use Rattle.std.proofs.Common.{ap, refl}
use Rattle.std.proofs.lemmas.List.{drop_all}
use Rattle.orca_course.specs.Acts.{gives}
use Rattle.orca_course.proofs.CallLemmas.{calls_err, so_cut, so_more, so_none, so_over}
use Rattle.orca_send.specs.Lines.{line_sent, lines_of}
use Rattle.orca_concert.proofs.SendLemmas.{sends_more}
use Rattle.orca_concert.proofs.sending.print_messages.Goals as goal

pub loop-message-init : goal.loop-message-init
loop-message-init g c = so_none _ refl

pub loop-message-preserved : goal.loop-message-preserved
loop-message-preserved g c =
    so_more _ _ (sends_more (line_sent c.args.label) _ _ _ c.loop-message-test.true
    c.message-item.is) c.loop-message.invariant c.in_ok-print_message.ensures.called

pub returns-in_err-print_message : goal.returns-in_err-print_message
returns-in_err-print_message g c =
    calls_err _ _ c.from_residual.ensures.1
    (so_cut _ _ (sends_more (line_sent c.args.label) _ _ _ c.loop-message-test.true
    c.message-item.is) c.loop-message.invariant c.in_err-print_message.ensures)

pub returns : goal.returns
returns g c =
    so_over _ (ap (λ ms. gives (lines_of c.args.label ms)) (drop_all _ _ c.loop-message-test.false))
    c.loop-message.invariant

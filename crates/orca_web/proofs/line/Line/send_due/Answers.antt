use Rattle.orca_web.proofs.MessageLemmas.{due_sent}
use Rattle.orca_web.specs.Frames.{message}
use Rattle.orca_web.proofs.line.Line.send_due.Goals as goal

pub returns-then-is_due-clause-whole : goal.returns-then-is_due-clause-whole
returns-then-is_due-clause-whole g c =
    due_sent c.send.result _ _ c.args.is_due (message c.args.kind c.args.bytes.now) c.if-is_due.true
    c.send.ensures.whole

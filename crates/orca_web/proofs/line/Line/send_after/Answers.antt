use Rattle.orca_web.specs.Frames.{if_due, message}
use Rattle.orca_web.proofs.MessageLemmas.{sent_first, sent_after, sent_both}
use Rattle.orca_web.proofs.line.Line.send_after.Goals as goal

pub returns-clause-frames : goal.returns-clause-frames
returns-clause-frames g c =
    let due = if_due c.args.is_due (message c.args.kind c.args.first.now) in
    let first = sent_first _ _ _ due c.in_ok-flush.ensures.still c.in_ok-send_due.ensures.whole in
    sent_after c.send.result _ _ _ due (message c.args.kind c.args.bytes.now) first
    c.send.ensures.whole c.send.ensures.filled

pub returns-clause-whole : goal.returns-clause-whole
returns-clause-whole g c =
    let due = if_due c.args.is_due (message c.args.kind c.args.first.now) in
    let first = sent_first _ _ _ due c.in_ok-flush.ensures.still c.in_ok-send_due.ensures.whole in
    sent_both c.send.result _ _ _ due (message c.args.kind c.args.bytes.now) first c.send.ensures.whole

use Rattle.orca_web.proofs.MessageLemmas.{sent_whole, sent_filled}
use Rattle.orca_web.proofs.line.Line.send.Goals as goal

pub returns-clause-whole : goal.returns-clause-whole
returns-clause-whole g c =
    sent_whole c.begin.result _ _ c.args.kind c.in-Some.header c.args.bytes.now c.in-Some.ensures c.begin.ensures.whole

pub returns-clause-filled : goal.returns-clause-filled
returns-clause-filled g c =
    sent_filled c.begin.result _ _ c.args.kind c.in-Some.header c.args.bytes.now c.in-Some.ensures c.begin.ensures.filled

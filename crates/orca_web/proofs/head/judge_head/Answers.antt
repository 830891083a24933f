use Rattle.std.proofs.Common.{rules}
use Rattle.httparse.specs.Spans.{IsRequestOf}
use Rattle.orca_web.proofs.HeadLemmas.{judged_whole}
use Rattle.orca_web.proofs.head.judge_head.Goals as goal

pub returns-then-head-bytes : goal.returns-then-head-bytes
returns-then-head-bytes c =
    let head = c.in-Ok-Complete.head in
    let of : IsRequestOf c.args.bytes.now c.parse_request.new.headers head = search rules in
    judged_whole c.args.rules.now c.args.bytes.now c.parse_request.new.headers head
    c.judge_request.result of c.if-head-bytes.true c.judge_request.ensures

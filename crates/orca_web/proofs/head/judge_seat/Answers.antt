use Rattle.std.proofs.Common.{rules}
use Rattle.orca_web.specs.Heads.{request_at}
use Rattle.orca_web.proofs.HeadLemmas.{seat_is_due, refused_upgrade}
use Rattle.orca_web.proofs.head.judge_seat.Goals as goal

pub returns-in-Err : goal.returns-in-Err
returns-in-Err c =
    seat_is_due (request_at c.args.bytes.now c.args.fields.now c.args.head.now) c.args.host.now
    c.in-Some.origin.now _ (search rules) (search rules)
    (refused_upgrade c.check_request.result c.in-Err.field-0 _ c.in-Err.is c.check_request.ensures)

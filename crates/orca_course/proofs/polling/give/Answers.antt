use Rattle.std.proofs.Common.{arith}
use Rattle.std.specs.Prelude.{Ok, Err}
use Rattle.orca_course.proofs.DoingLemmas.{does_err}
use Rattle.orca_course.proofs.PollLemmas.{took}
use Rattle.orca_course.proofs.polling.give.Goals as goal

pub returns-in_err-end : goal.returns-in_err-end
returns-in_err-end g c =
    does_err _ _ c.from_residual.ensures.1
    (took g.P.Performer.part c.args.item (Err _) c.in_err-end.ensures)

pub returns : goal.returns
returns g c =
    let done = took g.P.Performer.part c.args.item (Ok _) c.in_ok-end.ensures in grind (arith, done)

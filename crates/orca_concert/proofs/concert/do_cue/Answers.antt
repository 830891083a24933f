use Rattle.std.specs.Prelude.{Some, None, Ok, Err}
use Rattle.orca_course.proofs.DoingLemmas.{does_err, far_cut, far_more, far_none, far_over, far_stop}
use Rattle.orca_concert.specs.declared.halt.Halt.TheVariants.{Dropped, Ended}
use Rattle.orca_concert.proofs.ConcertLemmas.{cue_done, times_all, times_more, times_over}
use Rattle.orca_concert.proofs.concert.do_cue.Goals as goal

pub loop-time-init : goal.loop-time-init
loop-time-init g c = far_none (times_all _ _)

pub loop-time-preserved : goal.loop-time-preserved
loop-time-preserved g c =
    far_more _ _ (times_more _ _ _ c.loop-time-test.true) c.loop-time.invariant
    (rw c.in-None.is at c.in_ok-do_order.ensures)

pub returns-in_err-do_order : goal.returns-in_err-do_order
returns-in_err-do_order g c =
    does_err _ _ c.from_residual.ensures.1
    (cue_done _ _ _ (Err _)
    (far_cut _ _ (times_more _ _ _ c.loop-time-test.true) c.loop-time.invariant
    c.in_err-do_order.ensures))

pub returns-in-Some-Dropped : goal.returns-in-Some-Dropped
returns-in-Some-Dropped g c =
    cue_done _ _ _ (Ok (Some Dropped))
    (far_stop _ _ (times_more _ _ _ c.loop-time-test.true) c.loop-time.invariant
    (rw (c.in-Some-Dropped.is, c.in-Some-Dropped.field-0-is) at c.in_ok-do_order.ensures))

pub returns-in-Some-Ended : goal.returns-in-Some-Ended
returns-in-Some-Ended g c =
    rw c.in-Some-Ended.stop-is
    (cue_done _ _ _ (Ok (Some (Ended c.in-Some-Ended.stop)))
    (far_stop _ _ (times_more _ _ _ c.loop-time-test.true) c.loop-time.invariant
    (rw (c.in-Some-Ended.is, c.in-Some-Ended.field-0-is) at c.in_ok-do_order.ensures)))

pub returns : goal.returns
returns g c =
    cue_done _ _ _ (Ok None)
    (far_over (times_over _ _ _ c.loop-time-test.false) c.loop-time.invariant)

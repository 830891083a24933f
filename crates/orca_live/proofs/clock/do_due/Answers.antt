use Rattle.orca_course.proofs.DoingLemmas.{does_cut, does_err, does_stop, does_then}
use Rattle.orca_live.specs.Performing.{due_course}
use Rattle.orca_live.proofs.clock.do_due.Goals as goal

pub returns-in_err-stop : goal.returns-in_err-stop
unfolding due_course
returns-in_err-stop g c =
    does_err _ _ c.from_residual.ensures.1 (does_cut _ c.in_err-stop.ensures)

pub returns-in-Some : goal.returns-in-Some
unfolding due_course
returns-in-Some g c = does_stop _ (rw c.in-Some.is at c.in_ok-stop.ensures)

pub returns : goal.returns
unfolding due_course
returns g c = does_then _ (rw c.in_default.is at c.in_ok-stop.ensures) c.do_frame.ensures

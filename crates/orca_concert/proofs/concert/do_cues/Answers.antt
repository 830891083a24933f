use Rattle.std.proofs.Common.{refl}
use Rattle.orca_course.proofs.DoingLemmas.{does_err, far_cut, far_more, far_none, far_over, far_stop}
use Rattle.orca_concert.specs.Concerts.{cues_course}
use Rattle.orca_concert.proofs.concert.do_cues.Goals as goal

pub loop-cue-init : goal.loop-cue-init
loop-cue-init g c = far_none refl

pub loop-cue-preserved : goal.loop-cue-preserved
loop-cue-preserved g c =
    far_more _ _ c.in-Some.ensures c.loop-cue.invariant (rw c.in_default-2.is at
    c.in_ok-stop.ensures)

pub returns-in_err-stop : goal.returns-in_err-stop
unfolding cues_course
returns-in_err-stop g c =
    does_err _ _ c.from_residual.ensures.1
    (far_cut _ _ c.in-Some.ensures c.loop-cue.invariant c.in_err-stop.ensures)

pub returns : goal.returns
unfolding cues_course
returns g c = far_over c.in_default.ensures.0 c.loop-cue.invariant

pub returns-in-Some-2 : goal.returns-in-Some-2
unfolding cues_course
returns-in-Some-2 g c =
    far_stop _ _ c.in-Some.ensures c.loop-cue.invariant (rw c.in-Some-2.is at c.in_ok-stop.ensures)

use Rattle.orca_course.proofs.DoingLemmas.{does_err, far_cut, far_more, far_over, far_stop}
use Rattle.orca_live.proofs.DoneLemmas.{hands_left, hands_over, lull_did}
use Rattle.orca_live.proofs.clock.do_lull.Goals as goal

pub returns-in_err-stop : goal.returns-in_err-stop
returns-in_err-stop g c =
    does_err _ _ c.from_residual.ensures.1
    (lull_did _ _ c.hands-hand-end.ensures.hands
    (far_cut _ _ (hands_left _ _ c.loop-hand-test.true) c.loop-hand.invariant c.in_err-stop.ensures))

pub returns-in-Some : goal.returns-in-Some
returns-in-Some g c =
    lull_did _ _ c.hands-hand-end.ensures.hands
    (far_stop _ _ (hands_left _ _ c.loop-hand-test.true) c.loop-hand.invariant
    (rw c.in-Some.is at c.in_ok-stop.ensures))

pub returns : goal.returns
returns g c =
    lull_did _ _ c.hands-hand-end.ensures.hands
    (far_over (hands_over _ _ c.loop-hand-test.false) c.loop-hand.invariant)

pub loop-hand-preserved : goal.loop-hand-preserved
loop-hand-preserved g c =
    far_more _ _ (hands_left _ _ c.loop-hand-test.true) c.loop-hand.invariant
    (rw c.in_default.is at c.in_ok-stop.ensures)

use Rattle.std.proofs.Common.{◌∙◌, ap, refl}
use Rattle.orca_course.proofs.DoingLemmas.{far_cut, far_more, far_none, far_over, goes_err}
use Rattle.orca_live.proofs.DoneLemmas.{hands_left, hands_over, marked_did, paints_did}
use Rattle.orca_live.proofs.SeatLemmas.{there_painted}
use Rattle.orca_live.proofs.painting.paint_hands.Goals as goal

pub paint_hand-requires : goal.paint_hand-requires
paint_hand-requires g c =
    let inv = c.loop-hand.invariant in
    record {
      hand = rw (inv.2, ← c.hands-hand-end.ensures.hands) c.loop-hand-test.true;
      seated = there_painted _ inv.0.past inv.0.did c.requires;
    }

pub loop-hand-init : goal.loop-hand-init
loop-hand-init g c = (far_none refl, refl, refl)

pub loop-hand-preserved : goal.loop-hand-preserved
loop-hand-preserved g c =
    let inv = c.loop-hand.invariant in
    let one = c.in_ok-paint_hand.ensures in (
      far_more _ _ (hands_left _ _ c.loop-hand-test.true) inv.0
          (marked_did _ _ _ _ _ (ap g.M.Look.marks inv.1) one.painted),
      one.machine ∙ inv.1,
      one.crew ∙ inv.2,
    )

pub returns-in_err-paint_hand : goal.returns-in_err-paint_hand
returns-in_err-paint_hand g c =
    let inv = c.loop-hand.invariant in
    goes_err _ _ c.from_residual.ensures.1
    (paints_did _ _ _ c.hands-hand-end.ensures.hands
    (far_cut _ _ (hands_left _ _ c.loop-hand-test.true) inv.0
    (marked_did _ _ _ _ _ (ap g.M.Look.marks inv.1) c.in_err-paint_hand.ensures.painted)))

pub returns : goal.returns
returns g c =
    paints_did _ _ _ c.hands-hand-end.ensures.hands
    (far_over (hands_over _ _ c.loop-hand-test.false) c.loop-hand.invariant.0)

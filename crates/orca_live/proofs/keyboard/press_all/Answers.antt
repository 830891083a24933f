use Rattle.std.proofs.Common.{refl, sym, subst, ◌<◌, ℕ, length, ◌∙◌, ap}
use Rattle.std.proofs.lemmas.List.{drop_all}
use Rattle.orca_course.proofs.DoingLemmas.{does_err, far_cut, far_more, far_none, far_over, far_stop}
use Rattle.orca_live.specs.Performing.{keys_course}
use Rattle.orca_live.specs.States.{LiveState}
use Rattle.orca_live.proofs.DoneLemmas.{keys_left}
use Rattle.orca_live.proofs.CuttingLaw.{press_hands}
use Rattle.orca_live.proofs.keyboard.press_all.Goals as goal

pub loop-key-init : goal.loop-key-init
loop-key-init g c = (far_none refl, c.requires.hand)

pub returns-in_err-stop : goal.returns-in_err-stop
unfolding keys_course
returns-in_err-stop g c =
    does_err _ _ c.from_residual.ensures.1
    (far_cut _ _ (keys_left _ _ _ c.key-item.is c.loop-key-test.true) c.loop-key.invariant.0
    c.in_err-stop.ensures)

pub returns-in-Some : goal.returns-in-Some
unfolding keys_course
returns-in-Some g c =
    far_stop _ _ (keys_left _ _ _ c.key-item.is c.loop-key-test.true) c.loop-key.invariant.0
    (rw c.in-Some.is at c.in_ok-stop.ensures)

pub loop-key-preserved : goal.loop-key-preserved
loop-key-preserved g c =
    let did = rw c.in_default.is at c.in_ok-stop.ensures in (
      far_more _ _ (keys_left _ _ _ c.key-item.is c.loop-key-test.true) c.loop-key.invariant.0 did,
      subst (λ (n : ℕ). c.args.hand < n)
          (sym (ap (λ (t : LiveState). length t.crew.players) (sym did.did.state)
          ∙ press_hands c.args.hand _ _)) c.loop-key.invariant.1,
    )

pub returns : goal.returns
unfolding keys_course
returns g c =
    far_over (drop_all _ c.args.keys.now c.loop-key-test.false) c.loop-key.invariant.0

-- What the text is, once its ports were looked at one by one.
use Rattle.std.specs.Prelude.{ℕ, ◌+◌, ◌≡◌, ◌<◌, ◌==◌, true, false, Option, unwrap_or}
use Rattle.std.proofs.Common.{arith, ap}
use Rattle.orca_base.specs.declared.limits.TheConstants.{MAX_TEXT}
use Rattle.orca_base.specs.declared.place.Place.{Place}
use Rattle.orca_base.specs.Glyphs.{empty}
use Rattle.orca_op.specs.State.{State}
use Rattle.orca_op.proofs.FirstFacts.{first_where-found, first_where-missing}
use Rattle.orca_op.specs.EventRules.{port, ports, text_at}

-- the first empty port ends the text
pub text_at-found : (s : State) (at : Place) (i : ℕ) → i < MAX_TEXT
    → ((k : ℕ) → k < i → (port s at (k + 1) == empty) ≡ false) → (port s at (i + 1) == empty) ≡ true
    → text_at s at ≡ ports s at 1 i
unfolding text_at
text_at-found s at i few full here =
    ap (λ (first : Option ℕ). ports s at 1 (unwrap_or first MAX_TEXT))
    (first_where-found _ 0 MAX_TEXT i (omega arith) (omega arith) (λ k low below. full k below)
    here)

-- without an empty port the text has as many glyphs as fit
pub text_at-missing : (s : State) (at : Place)
    → ((k : ℕ) → k < MAX_TEXT → (port s at (k + 1) == empty) ≡ false)
    → text_at s at ≡ ports s at 1 MAX_TEXT
unfolding text_at
text_at-missing s at full =
    ap (λ (first : Option ℕ). ports s at 1 (unwrap_or first MAX_TEXT))
    (first_where-missing _ 0 MAX_TEXT (λ k low below. full k (omega arith)))

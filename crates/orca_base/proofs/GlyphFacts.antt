-- What follows from the glyph tables.
use Rattle.std.specs.Prelude.{ℕ, ◌≡◌, ◌<◌, false}
use Rattle.std.proofs.Common.{arith, refl}
use Rattle.std.proofs.lemmas.Bool.Decides.{nat_tests}
use Rattle.orca_base.specs.declared.limits.TheConstants.{BASE}
use Rattle.orca_base.specs.Glyphs.{IsGlyph, value, from_value, cased, empty, is_operator}

pub value-below : (g : ℕ) → value g < BASE
unfolding value
value-below g = grind (arith, nat_tests)

pub IsGlyph-cased : (n by : ℕ) → n < BASE → IsGlyph (cased n by)
unfolding cased from_value
IsGlyph-cased n by below = (grind (arith, nat_tests), grind (arith, nat_tests))

-- no operator stands where nothing does
pub none-empty : is_operator empty ≡ false
unfolding is_operator
none-empty = refl

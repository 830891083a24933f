-- The tables of the glyphs hold what the definitions say.
use Rattle.std.proofs.Common.{◌≡◌, ℕ, ◌<◌, ◌≤◌, ◌==◌, true, not, refl, arith}
use Rattle.std.specs.Prelude.{slice_index, nat_le}
use Rattle.std.proofs.lemmas.Bool.{agree_below_at, eqb-true, leb-true}
use Rattle.orca_base.specs.declared.glyph.TheConstants.{VALUES, OPERATORS, LOWER, UPPER}
use Rattle.orca_base.specs.Glyphs.{value, from_value, upper, is_operator}
use Rattle.orca_base.proofs.GlyphFacts.{value-below}

pub value_table : (g : ℕ) → g < 128 → slice_index VALUES g ≡ value g
unfolding value
value_table g below = eqb-true (slice_index VALUES g) (value g)
    (agree_below_at (λ k. slice_index VALUES k == value k) (λ k. true) 128 g refl below)

pub operator_table : (g : ℕ) → g < 128 → not (slice_index OPERATORS g == 0) ≡ is_operator g
unfolding is_operator
operator_table g below = agree_below_at (λ k. not (slice_index OPERATORS k == 0)) is_operator 128 g
    refl below

pub lower_table : (n : ℕ) → n < 36 → slice_index LOWER n ≡ from_value n
unfolding from_value
lower_table n below = eqb-true (slice_index LOWER n) (from_value n)
    (agree_below_at (λ k. slice_index LOWER k == from_value k) (λ k. true) 36 n refl below)

pub upper_table : (n : ℕ) → n < 36 → slice_index UPPER n ≡ upper (from_value n)
unfolding from_value
upper_table n below = eqb-true (slice_index UPPER n) (upper (from_value n))
    (agree_below_at (λ k. slice_index UPPER k == upper (from_value k)) (λ k. true) 36 n refl below)

pub lower_low : (n : ℕ) → n < 36 → 33 ≤ slice_index LOWER n
lower_low n below = leb-true 33 (slice_index LOWER n)
    (agree_below_at (λ k. nat_le 33 (slice_index LOWER k)) (λ k. true) 36 n refl below)

pub lower_high : (n : ℕ) → n < 36 → slice_index LOWER n ≤ 126
lower_high n below = leb-true (slice_index LOWER n) 126
    (agree_below_at (λ k. nat_le (slice_index LOWER k) 126) (λ k. true) 36 n refl below)

pub upper_low : (n : ℕ) → n < 36 → 33 ≤ slice_index UPPER n
upper_low n below = leb-true 33 (slice_index UPPER n)
    (agree_below_at (λ k. nat_le 33 (slice_index UPPER k)) (λ k. true) 36 n refl below)

pub upper_high : (n : ℕ) → n < 36 → slice_index UPPER n ≤ 126
upper_high n below = leb-true (slice_index UPPER n) 126
    (agree_below_at (λ k. nat_le (slice_index UPPER k) 126) (λ k. true) 36 n refl below)

pub value_table_below : (g : ℕ) → g < 128 → slice_index VALUES g < 36
value_table_below g below =
    let v = value_table g below in
    let h = value-below g in
    omega (arith, v, h)

-- what the table of values holds
pub ruleset glyph_values = (value_table, value_table_below)

-- what the table of lower-case glyphs holds
pub ruleset lower_glyphs = (lower_table, lower_low, lower_high)

-- what the tables of the glyphs of values hold, in both cases
pub ruleset cased_glyphs =
    (lower_table, upper_table, lower_low, lower_high, upper_low, upper_high)

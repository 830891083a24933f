-- Two numbers below the side of the largest grid, told by one comparison.
use Rattle.std.proofs.Common.{ℕ, ◌<◌, arith}
use Rattle.std.specs.Int.Bits.{bit_or}
use Rattle.std.proofs.lemmas.Nat.{le_or_l, le_or_r, or_lt}
use Rattle.orca_base.specs.declared.limits.TheConstants.{MAX_COLUMNS}

pub or_below : (y x : ℕ) → bit_or y x < MAX_COLUMNS → (y < MAX_COLUMNS) × (x < MAX_COLUMNS)
or_below y x low = (omega (arith, low, le_or_l y x), omega (arith, low, le_or_r y x))

pub or_small : (y x : ℕ) → y < MAX_COLUMNS → x < MAX_COLUMNS → bit_or y x < MAX_COLUMNS
or_small y x row column = or_lt 10 y x row column

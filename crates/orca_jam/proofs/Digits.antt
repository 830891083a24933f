-- How many decimal digits the number of a hand has.
use Rattle.std.proofs.Common.{ℕ, ◌<◌, ◌≤◌, ◌^◌, length, arith}
use Rattle.std.specs.Fmt.{decimal}
use Rattle.std.proofs.lemmas.Fmt.{length-decimal-le}
use Rattle.orca_base.specs.declared.limits.TheConstants.{MAX_DIGITS}

pub decimal_short : (n : ℕ) → n < 2 ^ 8 → length (decimal n) ≤ MAX_DIGITS
decimal_short n small = length-decimal-le 10 n (omega arith) (omega arith) (omega arith)

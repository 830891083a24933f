-- The zero bytes at the end of a string, by the remainder of its length.
use Rattle.std.proofs.Common.{◌≡◌, ℕ, ◌-◌, ◌%◌, arith}
use Rattle.std.proofs.lemmas.Bool.Decides.{nat_tests}
use Rattle.osc_bytes.specs.OscBytes.{zeros_after}

pub zeros_after-remainder : (n : ℕ) → zeros_after n ≡ 4 - n % 4
unfolding zeros_after
zeros_after-remainder n = grind (arith, nat_tests)

-- A cell as one number.
use Rattle.std.proofs.Common.{◌≡◌, ℕ, ◌+◌, ◌*◌, ◌<◌, ◌==◌, ◌&&◌, arith, rules}

-- two cells are equal where their numbers are
pub same_code : (a s b t : ℕ) → a < 256 → b < 256
    → (s * 256 + a == t * 256 + b) ≡ ((a == b) && (s == t))
same_code a s b t small low = search (rules, arith)

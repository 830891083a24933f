-- The first number that passes a test.
use Rattle.std.specs.Prelude.{ℕ, zero, suc, ◌+◌, ◌<◌, ◌≤◌, ◌≡◌, Bool, false, if◌then◌else◌, Option, Some, None}

-- the first of `many` numbers, counted up from `from`, that passes the test
unfoldable pub first_where : (ℕ → Bool) → ℕ → ℕ → Option ℕ
first_where test from zero = None
first_where test from (suc many) = if test from then Some from else first_where test (from + 1) many

-- no number from `from` up to `to` passes the test
abbrev pub NonePasses : (ℕ → Bool) → ℕ → ℕ → Type 0
NonePasses test from to = (k : ℕ) → from ≤ k → k < to → test k ≡ false

-- the number is one of the `many` from `from` on
abbrev pub IsWithin : ℕ → ℕ → ℕ → Type 0
IsWithin from many i = (from ≤ i) × (i < from + many)

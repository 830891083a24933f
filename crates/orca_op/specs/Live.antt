-- Live places: those that hold an operator.
use Rattle.std.specs.Prelude.{ℕ, ◌+◌, ◌-◌, ◌*◌, ◌^◌, ◌/◌, ◌%◌, ◌≡◌, ◌≤◌, ◌<◌, ◌==◌, ◌&&◌, Bool, nat_lt, List, length, Option, Some, None, is_some, slice_index}
use Rattle.std.specs.Int.{bit_at}
use Rattle.orca_base.specs.declared.limits.TheConstants.{WORD_COLUMNS}
use Rattle.orca_base.specs.Glyphs.{is_operator}
use Rattle.orca_op.specs.State.{State, state_glyph}
use Rattle.orca_op.specs.First.{first_where, NonePasses}

-- the column lies in the grid, and its place of the row holds an operator
abbrev pub is_live : State → ℕ → ℕ → Bool
is_live s row x = nat_lt x s.dims.w && is_operator (state_glyph s (record { y = row; x = x }))

-- a column's bit is set: of the word that it stands in, counted from the least significant bit
abbrev pub has_bit : List ℕ → ℕ → Bool
has_bit words x = bit_at (slice_index words (x / WORD_COLUMNS)) (x % WORD_COLUMNS) == 1

-- the words of a row: as many as its columns need, and the bits of its live columns are set
pub record IsLiveRow (s : State) (row : ℕ) (words : List ℕ) : Type 0 where
  pub size : length words ≡ (s.dims.w + (WORD_COLUMNS - 1)) / WORD_COLUMNS
  pub bits : (x : ℕ) → has_bit words x ≡ is_live s row x

-- one of the columns that stand in word `k` of a row passes the test
abbrev pub word_has : (ℕ → Bool) → ℕ → Bool
word_has test k = is_some (first_where test (k * WORD_COLUMNS) WORD_COLUMNS)

-- the bits of a row's summary show which of its words have a column that passes the test
abbrev pub IsSummary : (ℕ → Bool) → ℕ → Type 0
IsSummary test summary = (k : ℕ) → (bit_at summary k == 1) ≡ word_has test k

-- the least live column of a row that is at least `from`
unfoldable pub next_live : State → ℕ → ℕ → Option ℕ
next_live s row from = first_where (is_live s row) from (s.dims.w - from)

-- no column from `from` up to `to` is live
abbrev pub HasNoLive : State → ℕ → ℕ → ℕ → Type 0
HasNoLive s row from to = NonePasses (is_live s row) from to

-- the least bit of a word, at least `from`, that is set; none where none is
abbrev pub IsLeastBit : ℕ → ℕ → Option ℕ → Type 0
IsLeastBit word from None = (k : ℕ) → from ≤ k → k < WORD_COLUMNS → bit_at word k ≡ 0
IsLeastBit word from (Some bit) =
    (from ≤ bit) × (bit < WORD_COLUMNS) × (bit_at word bit ≡ 1)
    × ((k : ℕ) → from ≤ k → k < bit → bit_at word k ≡ 0)

-- a cursor before a column has reached the word of the column before it, and its bits from the
-- column on lie ahead
pub record IsCursor (column reached first ahead : ℕ) : Type 0 where
  pub word : reached ≡ (column - 1) / WORD_COLUMNS
  pub base : first ≡ reached * WORD_COLUMNS
  pub bits : ahead ≡ 2 ^ 64 - 2 ^ (column - reached * WORD_COLUMNS)

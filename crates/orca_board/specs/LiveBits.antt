-- The bits of the places of the largest grid.
use Rattle.std.specs.Prelude.{ℕ, ◌≡◌, ◌<◌, ◌+◌, ◌*◌, ◌==◌, ◌&&◌, not, nat_lt, List, length, replicate, slice_index}
use Rattle.std.specs.Int.{bit_at}
use Rattle.orca_base.specs.declared.limits.TheConstants.{LIVE_WORDS, MAX_ROWS, ROW_WORDS}

-- no bit is set
unfoldable pub no_bits : List ℕ
no_bits = replicate LIVE_WORDS 0

-- the words of all rows, and for each row a summary, whose bits show which of its words are not zero
pub record AreLiveBits (words rows : List ℕ) : Type 0 where
  pub words_whole : length words ≡ LIVE_WORDS
  pub rows_whole : length rows ≡ MAX_ROWS
  pub shown : (row k : ℕ) → row < MAX_ROWS → (bit_at (slice_index rows row) k == 1)
      ≡ (nat_lt k ROW_WORDS && not (slice_index words (row * ROW_WORDS + k) == 0))

use Rattle.std.proofs.Common.{ℕ, ◌≡◌, ◌+◌, ◌*◌, ◌<◌, ◌≤◌, length}
use Rattle.std.specs.Prelude.{slice_index}
use Rattle.orca_base.specs.Glyphs.{IsGlyph, is_operator}
use Rattle.orca_base.specs.declared.limits.TheConstants.{MAX_CELLS, MAX_COLUMNS, WORD_COLUMNS}
use Rattle.orca_op.specs.Live.{has_bit}
use Rattle.orca_board.proofs.field.lay_row.Given as goal

-- the first words are set by their cells
abbrev pub invariant-loop-k : goal.invariant-loop-k
invariant-loop-k l = record {
  glyphs : (i : ℕ) → i < l.k * WORD_COLUMNS → i < length l.fn.glyphs
      → IsGlyph (slice_index l.fn.glyphs i);
  done : (n : ℕ) → n < l.fn.row * MAX_COLUMNS + l.k * WORD_COLUMNS
      → has_bit l.live n ≡ is_operator (slice_index l.cells n);
  rest : (n : ℕ) → n < MAX_CELLS → l.fn.row * MAX_COLUMNS + length l.fn.glyphs ≤ n
      → has_bit l.live n ≡ is_operator (slice_index l.cells n);
}

use Rattle.std.proofs.Common.{ℕ, ◌≡◌, ◌<◌, ◌≤◌, ◌==◌}
use Rattle.std.specs.Int.{bit_at}
use Rattle.std.specs.Prelude.{slice_index}
use Rattle.orca_base.specs.Glyphs.{IsGlyph, is_operator}
use Rattle.orca_board.proofs.live_bits.operator_bits.Given as goal

-- the bits so far are those of their cells, and no other bit is set
abbrev pub invariant-loop-k : goal.invariant-loop-k
invariant-loop-k l = record {
  glyphs : (j : ℕ) → j < l.k → IsGlyph (slice_index l.fn.cells j);
  bits : (j : ℕ) → j < l.k
      → (bit_at l.word j == 1) ≡ is_operator (slice_index l.fn.cells j);
  rest : (j : ℕ) → l.k ≤ j → bit_at l.word j ≡ 0;
}

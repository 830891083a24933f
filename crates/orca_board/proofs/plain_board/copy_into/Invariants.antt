use Rattle.std.proofs.Common.{◌≡◌, ◌+◌, ◌<◌, ℕ, take, vec_len}
use Rattle.std.specs.Prelude.{slice_index, vec_capacity}
use Rattle.orca_base.specs.Glyphs.{IsGlyph}
use Rattle.orca_board.proofs.plain_board.copy_into.Given as goal

-- the glyphs so far, each with a step
abbrev pub invariant-loop-glyph : goal.invariant-loop-glyph
invariant-loop-glyph g l = record {
  items : l.list.items ≡ take l.glyph-index l.glyphs;
  glyphs : (k : ℕ) → k < l.glyph-index → IsGlyph (slice_index l.glyphs k);
  len : vec_len l.list ≡ l.glyph-index;
  capacity : vec_capacity l.list ≡ vec_capacity l.fn.list;
  steps : l.steps ≡ l.initial.steps + l.glyph-index;
}

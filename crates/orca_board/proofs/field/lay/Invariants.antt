use Rattle.std.proofs.Common.{ℕ, ◌≡◌, ◌*◌, ◌<◌, length}
use Rattle.std.specs.Prelude.{slice_index}
use Rattle.orca_base.specs.declared.limits.TheConstants.{MAX_CELLS}
use Rattle.orca_base.specs.declared.place.Place.{Place}
use Rattle.orca_base.specs.Glyphs.{IsGlyph}
use Rattle.orca_base.specs.Grids.{IsInside, index_of}
use Rattle.orca_board.specs.Board.{AreLive, IsEmptyOutside, cell_in}
use Rattle.orca_board.proofs.field.lay.Given as goal

-- the rows so far hold their glyphs
abbrev pub invariant-loop-row : goal.invariant-loop-row
invariant-loop-row l = record {
  whole : length l.cells ≡ MAX_CELLS;
  glyphs : (k : ℕ) → k < l.row * l.fn.dims.w → IsGlyph (slice_index l.fn.glyphs k);
  rows : (at : Place) → IsInside l.fn.dims at → at.y < l.row
      → cell_in l.cells at ≡ slice_index l.fn.glyphs (index_of l.fn.dims at);
  outside : IsEmptyOutside l.fn.dims l.cells;
  live : AreLive l.cells l.live;
}

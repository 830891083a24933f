use Rattle.std.proofs.Common.{◌≡◌, ◌<◌, length}
use Rattle.orca_base.specs.declared.limits.TheConstants.{MAX_CELLS}
use Rattle.orca_base.specs.declared.place.Place.{Place}
use Rattle.orca_base.specs.Glyphs.{empty}
use Rattle.orca_base.specs.Grids.{IsInside, largest}
use Rattle.orca_board.specs.Board.{AreLive, IsEmptyOutside, cell_in}
use Rattle.orca_board.proofs.field.wipe.Given as goal

-- the rows so far are empty
abbrev pub invariant-loop-row : goal.invariant-loop-row
invariant-loop-row l = record {
  whole : length l.cells ≡ MAX_CELLS;
  rows : (at : Place) → IsInside largest at → at.y < l.row → cell_in l.cells at ≡ empty;
  outside : IsEmptyOutside l.fn.dims l.cells;
  live : AreLive l.cells l.live;
}

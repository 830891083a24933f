use Rattle.std.proofs.Common.{◌≡◌, ◌&&◌, nat_lt, slice_index_or, if◌then◌else◌}
use Rattle.orca_base.specs.declared.place.Place.{Place}
use Rattle.orca_base.specs.Grids.{IsInside, index_of, largest}
use Rattle.orca_base.specs.MarkSet.{no_marks}
use Rattle.orca_marks.specs.Planes.{IsPlane}
use Rattle.orca_marks.proofs.plane.clear_rows.Given as goal

-- the rows before `row` have no marks in the grid
abbrev pub invariant-loop-row : goal.invariant-loop-row
invariant-loop-row l = record {
  plane : IsPlane l.places l.fn.dims l.marked;
  marks : (at : Place) → IsInside largest at
      → slice_index_or l.places (index_of largest at) no_marks
      ≡ (if nat_lt at.y l.row && nat_lt at.x l.fn.dims.w then no_marks
      else slice_index_or l.fn.places (index_of largest at) no_marks);
}

-- The slate that the parts of a board stand for, and what its parts keep.
use Rattle.std.specs.Prelude.{ℕ, ◌≡◌, ◌≤◌, ◌<◌, false, List, length, slice_index, slice_index_or}
use Rattle.orca_base.specs.declared.change.Change.{Change}
use Rattle.orca_base.specs.declared.limits.TheConstants.{MAX_CELLS, MAX_EVENTS}
use Rattle.orca_base.specs.declared.place.Place.{Place}
use Rattle.orca_base.specs.Glyphs.{empty, is_operator}
use Rattle.orca_base.specs.Grids.{Size, by_place, sheet_by, index_of, is_inside, IsInside, largest}
use Rattle.orca_base.specs.MarkSet.{MarkSet, no_marks}
use Rattle.orca_board.specs.declared.field.Field.TheInside.{Inside}
use Rattle.orca_board.specs.Listing.{ListsChanges, places_of}
use Rattle.orca_op.specs.Slate.{Slate}
use Rattle.orca_op.specs.Live.{has_bit}

-- the glyph and the marks of a place, in lists for the largest grid
abbrev pub cell_in : List ℕ → Place → ℕ
cell_in cells at = slice_index cells (index_of largest at)

abbrev pub cell_marks : List MarkSet → Place → MarkSet
cell_marks marks at = slice_index_or marks (index_of largest at) no_marks

abbrev pub slate_of : Inside → Slate
slate_of b = record {
  scan = record {
    dims = b.dims;
    cells = by_place b.dims (cell_in b.cells.items);
    marks = by_place b.dims (cell_marks b.marks);
    vars = b.vars.items;
    events = b.events.items;
  };
  began = sheet_by b.listing.began (cell_in b.before.value.items);
  listed = places_of b.listing.changes;
}

-- a cell outside the grid is empty
abbrev pub IsEmptyOutside : Size → List ℕ → Type 0
IsEmptyOutside d cells =
    (at : Place) → IsInside largest at → is_inside d at ≡ false → cell_in cells at ≡ empty

-- a bit is set exactly where its cell holds an operator
abbrev pub AreLive : List ℕ → List ℕ → Type 0
AreLive cells bits = (n : ℕ) → n < MAX_CELLS → has_bit bits n ≡ is_operator (slice_index cells n)

-- the parts are a slate with its changes; a cell outside the grid is empty; a bit is set exactly
-- where a cell holds an operator; and there is room for every event
pub record KeepsBoard (d : Slate) (known : List Change) (cells : List ℕ) (marks : List MarkSet)
    (bits : List ℕ) (room : ℕ) : Type 0 where
  pub lists : ListsChanges d known
  pub whole : length cells ≡ MAX_CELLS
  pub marks_whole : length marks ≡ MAX_CELLS
  pub outside : IsEmptyOutside d.scan.dims cells
  pub live : AreLive cells bits
  pub events_roomy : MAX_EVENTS ≤ room

-- The marks of all places, and which rows have some.
use Rattle.std.specs.Prelude.{ℕ, ◌≡◌, ◌<◌, ◌/◌, ◌%◌, Bool, false, List, length, replicate, slice_index_or}
use Rattle.orca_base.specs.declared.limits.TheConstants.{MAX_CELLS, MAX_COLUMNS, MAX_ROWS}
use Rattle.orca_base.specs.Grids.{Size}
use Rattle.orca_base.specs.MarkSet.{MarkSet, no_marks}

-- nothing is marked
unfoldable pub blank : List MarkSet
blank = replicate MAX_CELLS no_marks

-- a set of marks for each place, and for each row whether it was marked since the last clearing: if
-- not, no place of the size that was cleared has marks there
pub record IsPlane (marks : List MarkSet) (cleared : Size) (marked : List Bool) : Type 0 where
  pub size : length marks ≡ MAX_CELLS
  pub rows : length marked ≡ MAX_ROWS
  pub clean : (i : ℕ) → slice_index_or marked (i / MAX_COLUMNS) false ≡ false
      → i / MAX_COLUMNS < cleared.h → i % MAX_COLUMNS < cleared.w
      → slice_index_or marks i no_marks ≡ no_marks

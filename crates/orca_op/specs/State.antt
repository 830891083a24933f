-- The state of a scan, and what can be read in it.
use Rattle.std.specs.Prelude.{ℕ, ◌-◌, ◌≡◌, ◌≤◌, ◌==◌, Bool, ◌||◌, List, [], length, replicate, Option, Some, None, slice_index, slice_index_or, is_some, min, unwrap_or}
use Rattle.orca_base.specs.declared.event.Event.{Event}
use Rattle.orca_base.specs.declared.limits.TheConstants.{BASE}
use Rattle.orca_base.specs.declared.place.Place.{Place}
use Rattle.orca_base.specs.declared.place.Spot.{Spot}
use Rattle.orca_base.specs.Glyphs.{AreGlyphs, empty, bang}
use Rattle.orca_base.specs.Grids.{Size, Sheet, IsSheet, cells_of, glyph_at as glyph_on, index_of, place_in, above, below, left, right}
use Rattle.orca_base.specs.MarkSet.{MarkSet, no_marks}

-- the size, the glyphs and the marks in reading order, the variables, and the events so far
pub record State : Type 0 where
  pub dims : Size
  pub cells : List ℕ
  pub marks : List MarkSet
  pub vars : List ℕ
  pub events : List Event

abbrev pub sheet_of : State → Sheet
sheet_of s = record { dims = s.dims; cells = s.cells }

-- a grid, a set of marks for each place, a glyph for each variable, and no more events than places
pub record IsState (s : State) : Type 0 where
  pub sheet : IsSheet (sheet_of s)
  pub marks : length s.marks ≡ cells_of s.dims
  pub vars : length s.vars ≡ BASE
  pub glyphs : AreGlyphs s.vars
  pub events : length s.events ≤ cells_of s.dims

-- nothing is marked
abbrev pub blank_marks : Size → List MarkSet
blank_marks d = replicate (cells_of d) no_marks

-- nothing is marked, the variables are empty, and there is no event
abbrev pub fresh : Sheet → State
fresh g = record {
  dims = g.dims;
  cells = g.cells;
  marks = blank_marks g.dims;
  vars = replicate BASE empty;
  events = [];
}

-- the glyph of a place
abbrev pub state_glyph : State → Place → ℕ
state_glyph s at = glyph_on (sheet_of s) at

-- the marks of a place
abbrev pub marks_at : State → Place → MarkSet
marks_at s at = slice_index_or s.marks (index_of s.dims at) no_marks

abbrev pub glyph_in : State → Option Place → ℕ
glyph_in s None = empty
glyph_in s (Some at) = state_glyph s at

abbrev pub marks_in : State → Option Place → MarkSet
marks_in s None = no_marks
marks_in s (Some at) = marks_at s at

-- the glyph of a spot, `.` outside the grid
unfoldable pub peek : State → Spot → ℕ
peek s spot = glyph_in s (place_in s.dims spot)

-- the marks of a spot, none outside the grid
unfoldable pub marked : State → Spot → MarkSet
marked s spot = marks_in s (place_in s.dims spot)

-- a variable
unfoldable pub var_at : State → ℕ → ℕ
var_at s n = slice_index s.vars n

-- the spot lies in the grid
unfoldable pub holds : State → Spot → Bool
holds s spot = is_some (place_in s.dims spot)

-- a bang stands at one of the four neighbours
unfoldable pub has_bang : State → Place → Bool
has_bang s at =
    (peek s (above at) == bang) || (peek s (left at 1) == bang)
    || (peek s (right at 1) == bang) || (peek s (below at) == bang)

-- how many places at the right of a place are looked at: as many as it takes to find the first that
-- is looked for, or all that lie in the grid and within the reach
abbrev pub looks_right : Size → Place → ℕ → Option ℕ → ℕ
looks_right d at reach first = unwrap_or first (min reach (d.w - 1 - at.x))

-- Sizes, places and spots, and grids of glyphs.
use Rattle.std.specs.Prelude.{ℕ, ◌+◌, ◌*◌, ◌/◌, ◌%◌, ◌<◌, ◌≤◌, ◌≡◌, ◌==◌, ℤ, pos, negsuc, neg_ℤ, ◌+ℤ◌, ◌≤ℤ◌, Bool, ◌&&◌, nat_lt, if◌then◌else◌, Option, Some, None, List, length, map, slice_index}
use Rattle.std.specs.List.{range_with_len}
use Rattle.orca_base.specs.Glyphs.{AreGlyphs}
use Rattle.orca_base.specs.declared.limits.TheConstants.{MAX_ROWS, MAX_COLUMNS, MAX_REACH}
use Rattle.orca_base.specs.declared.place.Place.{Place}
use Rattle.orca_base.specs.declared.place.Spot.{Spot}

-- the number of rows and of columns of a grid
pub record Size : Type 0 where
  pub h : ℕ
  pub w : ℕ

-- the sizes that a grid may have
pub record IsSize (d : Size) : Type 0 where
  pub rows : 1 ≤ d.h
  pub few_rows : d.h ≤ MAX_ROWS
  pub columns : 1 ≤ d.w
  pub few_columns : d.w ≤ MAX_COLUMNS

-- the size of the largest grid
abbrev pub largest : Size
largest = record { h = MAX_ROWS; w = MAX_COLUMNS }

-- the place lies in a grid of this size
pub record IsInside (d : Size) (at : Place) : Type 0 where
  pub row : at.y < d.h
  pub column : at.x < d.w

-- the same as a test
abbrev pub is_inside : Size → Place → Bool
is_inside d at = nat_lt at.y d.h && nat_lt at.x d.w

-- whether two places are one
abbrev pub is_place : Place → Place → Bool
is_place a b = (a.y == b.y) && (a.x == b.x)

-- the number of places
abbrev pub cells_of : Size → ℕ
cells_of d = d.h * d.w

-- the number of a place in reading order
abbrev pub index_of : Size → Place → ℕ
index_of d at = at.y * d.w + at.x

-- the place of a number in reading order
abbrev pub place_of : Size → ℕ → Place
place_of d n = record { y = n / d.w; x = n % d.w }

abbrev pub place_at : Size → ℤ → ℤ → Option Place
place_at d (pos y) (pos x) =
    if nat_lt y d.h && nat_lt x d.w then Some (record { y = y; x = x }) else None
place_at d (pos y) (negsuc x) = None
place_at d (negsuc y) x = None

-- the place of a spot, where it lies in the grid
abbrev pub place_in : Size → Spot → Option Place
place_in d spot = place_at d spot.y spot.x

-- how far a deed may reach in rows or columns, to either side
abbrev pub IsReach : ℤ → Type 0
IsReach d = (neg_ℤ MAX_REACH ≤ℤ d) × (d ≤ℤ MAX_REACH)

-- the spot dy rows below a place and dx columns to its right
abbrev pub off : Place → ℤ → ℤ → Spot
off at dy dx = record { y = pos at.y +ℤ dy; x = pos at.x +ℤ dx }

-- a place as a spot, the spot above it, those n rows below, and those n columns to the left and to
-- the right
abbrev pub here : Place → Spot
here at = off at (pos 0) (pos 0)

abbrev pub above : Place → Spot
above at = off at (negsuc 0) (pos 0)

abbrev pub down : Place → ℕ → Spot
down at n = off at (pos n) (pos 0)

abbrev pub below : Place → Spot
below at = down at 1

abbrev pub left : Place → ℕ → Spot
left at n = off at (pos 0) (neg_ℤ (pos n))

abbrev pub right : Place → ℕ → Spot
right at n = off at (pos 0) (pos n)

-- a grid: its size, and its glyphs in reading order
pub record Sheet : Type 0 where
  pub dims : Size
  pub cells : List ℕ

-- a grid of such a size, with a glyph for each place
pub record IsSheet (g : Sheet) : Type 0 where
  pub size : IsSize g.dims
  pub whole : length g.cells ≡ cells_of g.dims
  pub glyphs : AreGlyphs g.cells

-- the glyph of a place
abbrev pub glyph_at : Sheet → Place → ℕ
glyph_at g at = slice_index g.cells (index_of g.dims at)

-- what a function gives to the places of a size, in reading order
unfoldable pub by_place : {A : Type 0} → Size → (Place → A) → List A
by_place d f = map (λ n. f (place_of d n)) (range_with_len 0 (cells_of d))

-- the grid of a size in which each place has the glyph that the function gives to it
abbrev pub sheet_by : Size → (Place → ℕ) → Sheet
sheet_by d glyph = record { dims = d; cells = by_place d glyph }

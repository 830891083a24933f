-- What an edit makes of a grid, what a copy takes of it, and what a Clip makes of a clip. Each says
-- of one place alone where its glyph comes from.
use Rattle.std.specs.Prelude.{ℕ, ◌+◌, ◌-◌, Bool, ◌&&◌, nat_le, nat_lt, max, if◌then◌else◌, [], ◌∷◌, Option, Some}
use Rattle.std.specs.Option.{option_map}
use Rattle.orca_base.specs.declared.area.Area.{Area}
use Rattle.orca_base.specs.declared.place.Place.{Place}
use Rattle.orca_base.specs.Areas.{size_of, corner_of}
use Rattle.orca_base.specs.Glyphs.{empty}
use Rattle.orca_base.specs.Grids.{Size, Sheet, glyph_at, is_inside, is_place, sheet_by}

-- the place lies in the block of this size whose first place is `corner`
abbrev pub is_within : Place → Size → Place → Bool
is_within corner d at =
    nat_le corner.y at.y && nat_lt at.y (corner.y + d.h)
    && nat_le corner.x at.x && nat_lt at.x (corner.x + d.w)

-- the place lies in the area
abbrev pub is_in_area : Area → Place → Bool
is_in_area area at = is_within (corner_of area) (size_of area) at

-- the place that lies to `to` as `at` lies to `from`
abbrev pub moved : Place → Place → Place → Place
moved from to at = record { y = to.y + (at.y - from.y); x = to.x + (at.x - from.x) }

-- the first place of a block
abbrev pub origin : Place
origin = record { y = 0; x = 0 }

-- Fill: the places of the area hold the glyph
abbrev pub sheet_after_fill : Sheet → Area → ℕ → Sheet
sheet_after_fill g area glyph =
    sheet_by g.dims (λ at. if is_in_area area at then glyph else glyph_at g at)

-- Put: the cell (i, j) of the block stands i rows below and j columns to the right of `to`, where
-- that is in the grid
abbrev pub sheet_after_put : Sheet → Place → Sheet → Sheet
sheet_after_put g to block =
    sheet_by g.dims (λ at.
    if is_within to block.dims at then glyph_at block (moved to origin at) else glyph_at g at)

-- Move: the area's image holds what the area held, and the rest of the area is empty
abbrev pub sheet_after_move : Sheet → Area → Place → Sheet
sheet_after_move g area to =
    sheet_by g.dims (λ at.
    if is_within to (size_of area) at then glyph_at g (moved to (corner_of area) at)
    else (if is_in_area area at then empty else glyph_at g at))

-- Resize: the common part stays, and new places are empty
abbrev pub sheet_after_resize : Sheet → Size → Sheet
sheet_after_resize g d = sheet_by d (λ at. if is_inside g.dims at then glyph_at g at else empty)

-- Copy and Cut: the glyphs of the area
abbrev pub block_of : Sheet → Area → Sheet
block_of g area = sheet_by (size_of area) (λ at. glyph_at g (moved origin (corner_of area) at))

-- a block of one cell
abbrev pub one_cell : ℕ → Sheet
one_cell glyph = record { dims = record { h = 1; w = 1 }; cells = glyph ∷ [] }

-- the glyph of a cell of a block that has this one at `at`; beyond the block cells are empty
abbrev pub cell_with : Sheet → Place → ℕ → Place → ℕ
cell_with block at glyph cell =
    if is_place cell at then glyph
    else (if is_inside block.dims cell then glyph_at block cell else empty)

-- a block with a glyph in a cell, and as many rows and columns more as hold the cell
abbrev pub block_with : Sheet → Place → ℕ → Sheet
block_with block at glyph =
    sheet_by (record { h = max block.dims.h (at.y + 1); w = max block.dims.w (at.x + 1) })
    (cell_with block at glyph)

-- Clip: the clip with a glyph in a cell; the first cell begins a new clip
abbrev pub clipped : Option Sheet → Place → ℕ → Option Sheet
clipped clip at glyph =
    if is_place at origin then Some (one_cell glyph)
    else option_map (λ block. block_with block at glyph) clip

-- Edits of a block of cells on a slate: the places that each writes, in order, and the slate that it
-- leaves.
use Rattle.std.specs.Prelude.{ℕ, ◌+◌, ◌/◌, ◌≤◌, Bool, ◌&&◌, nat_le, nat_lt, not, List, [], ◌∷◌, ◌++◌, length, map, filter, Some}
use Rattle.std.specs.List.{range_with_len}
use Rattle.orca_base.specs.declared.area.Area.{Area}
use Rattle.orca_base.specs.declared.limits.TheConstants.{MAX_ROWS, MAX_COLUMNS}
use Rattle.orca_base.specs.declared.place.Place.{Place}
use Rattle.orca_base.specs.Areas.{area_in, corner_of, size_of}
use Rattle.orca_base.specs.Edits.{is_in_area, moved, origin}
use Rattle.orca_base.specs.Grids.{Size, Sheet, by_place, glyph_at, here, place_of}
use Rattle.orca_op.specs.Deeds.{Deed, Write}
use Rattle.orca_op.specs.Slate.{Slate, list_with}

-- the places are listed in order
abbrev pub list_each : Size → List Place → List Place → List Place
list_each began listed [] = listed
list_each began listed (at ∷ more) = list_each began (list_with began listed (Some at)) more

-- what a block edit leaves: the glyphs of a grid of the same size, and the written places listed in
-- order
abbrev pub slate_after_edit : Slate → Sheet → List Place → Slate
slate_after_edit d g places = record {
  scan = record d.scan { cells = g.cells };
  began = d.began;
  listed = list_each d.began.dims d.listed places;
}

-- the place of a number in an area, in reading order
abbrev pub nth_place : Area → ℕ → Place
nth_place area n = moved origin (corner_of area) (place_of (size_of area) n)

-- the places of an area, in reading order
abbrev pub places_in : Area → List Place
places_in area = by_place (size_of area) (moved origin (corner_of area))

-- `count` places of a row, the first of which is `at`
abbrev pub row_run : Place → ℕ → List Place
row_run at count = map (λ i. record { y = at.y; x = at.x + i }) (range_with_len 0 count)

-- the part, inside a grid of size d, of a block of a size whose first place is `to`
abbrev pub image : Size → Place → Size → Area
image d to size = area_in d (record { y = to.y; x = to.x; h = size.h; w = size.w })

-- Fill writes each place of the area
abbrev pub fill_places : Area → List Place
fill_places area = places_in area

-- Put writes each place of the block's image
abbrev pub put_places : Size → Place → Size → List Place
put_places d to size = places_in (image d to size)

-- the places of an area that lie outside another
abbrev pub places_outside : Area → Area → List Place
places_outside area other = filter (λ at. not (is_in_area other at)) (places_in area)

-- the area has places in this row
abbrev pub crosses : Area → ℕ → Bool
crosses area y = nat_le area.y y && nat_lt y (area.y + area.h)

-- those of them that stand in one row
abbrev pub row_outside : Area → ℕ → Area → List Place
row_outside area row other = filter (λ at. not (is_in_area other at))
    (row_run (record { y = area.y + row; x = area.x }) area.w)

-- Move writes the places of the area outside its image, which become empty, and then each place of
-- the image
abbrev pub shift_places : Size → Area → Place → List Place
shift_places d area to =
    places_outside area (image d to (size_of area)) ++ places_in (image d to (size_of area))

-- the deeds that write each of these places with the glyph that the function gives to it
abbrev pub write_each : (Place → ℕ) → List Place → List Deed
write_each glyph places = map (λ at. Write (here at) (glyph at)) places

-- rows of this width, one after the other
abbrev pub rows_of_width : ℕ → List ℕ → Sheet
rows_of_width width cells =
    record { dims = record { h = length cells / width; w = width }; cells = cells }

-- the glyph that such rows have for a place, where they begin at `corner`
abbrev pub glyph_from : Sheet → Place → Place → ℕ
glyph_from rows corner at = glyph_at rows (moved corner origin at)

-- the area reaches over no edge of the largest grid
pub record IsInLargest (area : Area) : Type 0 where
  pub bottom : area.y + area.h ≤ MAX_ROWS
  pub right : area.x + area.w ≤ MAX_COLUMNS

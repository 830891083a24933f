-- Areas of a grid, and the part of a rect that lies in the grid.
use Rattle.std.specs.Prelude.{◌+◌, ◌-◌, ◌≤◌, min}
use Rattle.orca_base.specs.declared.area.Area.{Area}
use Rattle.orca_base.specs.declared.area.Rect.{Rect}
use Rattle.orca_base.specs.declared.place.Place.{Place}
use Rattle.orca_base.specs.Grids.{Size}

-- the area lies in a grid of this size, and isn't empty
pub record IsArea (d : Size) (area : Area) : Type 0 where
  pub rows : 1 ≤ area.h
  pub columns : 1 ≤ area.w
  pub bottom : area.y + area.h ≤ d.h
  pub right : area.x + area.w ≤ d.w

-- the size of an area
abbrev pub size_of : Area → Size
size_of area = record { h = area.h; w = area.w }

-- the first place of an area
abbrev pub corner_of : Area → Place
corner_of area = record { y = area.y; x = area.x }

-- the part of a rect that lies in the grid
abbrev pub area_in : Size → Rect → Area
area_in d rect = record {
  y = rect.y;
  x = rect.x;
  h = min (rect.y + rect.h) d.h - rect.y;
  w = min (rect.x + rect.w) d.w - rect.x;
}

-- the area of one place
abbrev pub area_at : Place → Area
area_at at = record { y = at.y; x = at.x; h = 1; w = 1 }

-- Which places a frame writes.
use Rattle.std.specs.Prelude.{◌≡◌, List, Some}
use Rattle.orca_base.specs.declared.now.Now.{Now}
use Rattle.orca_base.specs.declared.place.Place.{Place}
use Rattle.orca_base.specs.Grids.{Size, Sheet, place_in}
use Rattle.orca_op.specs.Deeds.{Deed, Mark, Write, Set, Emit}
use Rattle.orca_op.specs.Laws.{AnyDeed}
use Rattle.orca_op.specs.Scan.{scan_deeds, places}

-- the deed writes this place of a grid of this size
abbrev pub WritesPlace : Size → Place → Deed → Type 0
WritesPlace d at (Mark spot marks) = ⊥
WritesPlace d at (Write spot glyph) = place_in d spot ≡ Some at
WritesPlace d at (Set variable glyph) = ⊥
WritesPlace d at (Emit event) = ⊥

-- the deeds of a frame: those of each visit, in reading order
abbrev pub frame_deeds : Sheet → Now → List Deed
frame_deeds g now = scan_deeds (places g) g now

-- some deed of the frame writes the place
abbrev pub IsWritten : Sheet → Now → Place → Type 0
IsWritten g now at = AnyDeed (WritesPlace g.dims at) (frame_deeds g now)

-- What an edit lists, where nothing was listed before it: each place that it touches, once.
use Rattle.std.specs.Prelude.{◌*◌, ◌≡◌, ◌≤◌, List, [], All, length}
use Rattle.std.specs.List.{IsDistinct}
use Rattle.orca_base.specs.declared.area.Area.{Area}
use Rattle.orca_base.specs.declared.place.Place.{Place}
use Rattle.orca_base.specs.Areas.{IsArea}
use Rattle.orca_base.specs.Grids.{Size, Sheet, IsInside, cells_of, is_place}
use Rattle.orca_op.specs.Slate.{slate_of_sheet, residue}
use Rattle.orca_board.specs.Blocks.{fill_places, list_each, put_places, shift_places}
use Rattle.orca_board.specs.Sizes.{cut_places}

-- all of these places are listed, in their order, where none was
abbrev pub AreAllListed : Size → List Place → Type 0
AreAllListed d places = list_each d [] places ≡ places

-- places of the grid of which none stands twice are all listed
abbrev pub ListingLaw : Type 0
ListingLaw =
    (d : Size) (places : List Place) → All (IsInside d) places → IsDistinct is_place places
    → AreAllListed d places

-- a fill lists each place of its area
abbrev pub FillLaw : Type 0
FillLaw =
    (d : Size) (area : Area) → IsArea d area
    → AreAllListed d (fill_places area) × (length (fill_places area) ≡ area.h * area.w)

-- a put lists each place of the block's image
abbrev pub PutLaw : Type 0
PutLaw =
    (d : Size) (to : Place) (size : Size) → IsInside d to → AreAllListed d (put_places d to size)

-- a move lists each place of its area and of the image
abbrev pub ShiftLaw : Type 0
ShiftLaw =
    (d : Size) (area : Area) (to : Place) → IsArea d area → IsInside d to
    → AreAllListed d (shift_places d area to)

-- another size lists each place that it cuts off, at most all of the grid
abbrev pub CutLaw : Type 0
CutLaw =
    (d to : Size)
    → AreAllListed d (cut_places d to) × (length (cut_places d to) ≤ cells_of d)

-- nothing is left to clear as a frame begins
abbrev pub BeginLaw : Type 0
BeginLaw = (g : Sheet) → residue (slate_of_sheet g) ≡ 0

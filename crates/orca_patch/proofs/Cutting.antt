-- How many places a size cuts off.
use Rattle.std.proofs.Common.{◌≡◌, true, not, List, [], ◌∷◌, refl, arith, zero-add}
use Rattle.std.specs.Prelude.{filter}
use Rattle.std.specs.List.{AllByRecursion}
use Rattle.std.proofs.lemmas.Bool.{le-leb, lt-ltb}
use Rattle.std.proofs.lemmas.List.Elements.{recursion_from_All}
use Rattle.orca_base.specs.declared.place.Place.{Place}
use Rattle.orca_base.specs.Edits.{is_in_area}
use Rattle.orca_base.specs.Grids.{Size, IsInside}
use Rattle.orca_board.specs.Blocks.{places_in}
use Rattle.orca_board.specs.Sizes.{cut_places, whole}
use Rattle.orca_board.proofs.BlockPlaces.{inside-places_in}

-- a place of a grid lies in the whole of it
in-whole : (d : Size) (at : Place) → IsInside d at → is_in_area (whole d) at ≡ true
in-whole d at inside =
    rw (
      zero-add d.h,
      zero-add d.w,
      le-leb 0 at.y (omega arith),
      le-leb 0 at.x (omega arith),
      lt-ltb at.y d.h inside.row,
      lt-ltb at.x d.w inside.column,
    ) refl

none-outside : (d : Size) (places : List Place) → AllByRecursion (IsInside d) places
    → filter (λ at. not (is_in_area (whole d) at)) places ≡ []
none-outside d [] all = refl
none-outside d (p ∷ places) all =
    rw (in-whole d p all.0) (none-outside d places all.1)

-- a grid's own size cuts off none
pub cut_places-same : (d : Size) → cut_places d d ≡ []
cut_places-same d =
    none-outside d (places_in (whole d)) (recursion_from_All (IsInside d) (places_in (whole d))
    (inside-places_in d (whole d) (omega arith) (omega arith)))

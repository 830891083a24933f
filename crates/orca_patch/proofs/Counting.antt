-- Places of a grid of which none stands twice are at most as many as its cells.
use Rattle.std.proofs.Common.{◌≡◌, ℕ, ◌<◌, ◌≤◌, true, false, eqb, List, [], ◌∷◌, length, map, arith, refl, sym, ◌∙◌, inl, inr}
use Rattle.std.proofs.Math.Nat.{mul-le-mul_left, mul-le-mul_right}
use Rattle.std.specs.Prelude.{All}
use Rattle.std.specs.List.{AllByRecursion, IsDistinct, list_any}
use Rattle.std.proofs.lemmas.Bool.{both_ways, eqb-true, or_cases}
use Rattle.std.proofs.lemmas.List.{length-map}
use Rattle.std.proofs.lemmas.List.Elements.{recursion_from_All}
use Rattle.std.proofs.lemmas.Map.Steps.{length-le_from_distinct_below}
use Rattle.orca_base.specs.declared.change.Change.{Change}
use Rattle.orca_base.specs.declared.limits.TheConstants.{MAX_CELLS, MAX_COLUMNS}
use Rattle.orca_base.specs.declared.place.Place.{Place}
use Rattle.orca_base.specs.Grids.{Size, IsInside, cells_of, index_of, is_place}
use Rattle.orca_base.proofs.PlaceFacts.{index_of-below, is_place-index}
use Rattle.orca_board.specs.Listing.{places_of}
use Rattle.orca_patch.specs.Patches.{Before, IsPatch}

-- the numbers of other places are others
numbers-apart : (d : Size) (at : Place) (places : List Place) → IsInside d at
    → AllByRecursion (IsInside d) places → AllByRecursion (λ p. is_place at p ≡ false) places
    → AllByRecursion (λ n. eqb (index_of d at) n ≡ false) (map (index_of d) places)
numbers-apart d at [] here inside apart = tt
numbers-apart d at (p ∷ places) here inside apart = (
  sym (is_place-index d at p here inside.0) ∙ apart.0,
  numbers-apart d at places here inside.1 apart.1,
)

numbers-distinct : (d : Size) (places : List Place) → AllByRecursion (IsInside d) places
    → IsDistinct is_place places → IsDistinct eqb (map (index_of d) places)
unfolding IsDistinct
numbers-distinct d [] inside once = tt
numbers-distinct d (p ∷ places) inside once = (
  numbers-apart d p places inside.0 inside.1 once.0,
  numbers-distinct d places inside.1 once.1,
)

numbers-below : (d : Size) (places : List Place) → AllByRecursion (IsInside d) places
    → (q : ℕ) → list_any (eqb q) (map (index_of d) places) ≡ true → q < cells_of d
numbers-below d [] inside q is = absurd (both_ways _ refl is)
numbers-below d (p ∷ places) inside q is = elim (or_cases _ _ is) [
  | inl here ↦
      let same : q ≡ index_of d p = eqb-true _ _ here in
      omega (arith, same, index_of-below d p inside.0)
  | inr later ↦ numbers-below d places inside.1 q later
]

length-places : (d : Size) (places : List Place) → All (IsInside d) places
    → IsDistinct is_place places → length places ≤ cells_of d
length-places d places all once =
    let inside = recursion_from_All (IsInside d) places all in
    let few = length-le_from_distinct_below (map (index_of d) places) (cells_of d)
    (numbers-distinct d places inside once) (numbers-below d places inside) in
    omega (arith, few, length-map places (index_of d))

-- the changes of a patch
pub length-changes : (b : Before) → IsPatch b → length b.changes ≤ cells_of b.dims
length-changes b patch =
    omega (
      arith,
      length-places b.dims (places_of b.changes) patch.inside patch.once,
      length-map b.changes (λ (change : Change). change.at),
    )

-- they fit their number
pub few-changes : (b : Before) → IsPatch b → length b.changes ≤ MAX_CELLS
few-changes b patch =
    let rows = mul-le-mul_left b.dims.h patch.size.few_columns in
    let columns = mul-le-mul_right MAX_COLUMNS patch.size.few_rows in
    omega (arith, length-changes b patch, rows, columns)

-- The places of areas and of images.
use Rattle.std.proofs.Common.{◌≡◌, ℕ, ◌+◌, ◌-◌, ◌*◌, ◌/◌, ◌%◌, ◌<◌, ◌≤◌, Bool, true, false, not, ◌&&◌, length, get_or, refl, arith, ap, sym, ◌∙◌, subst, inl, inr}
use Rattle.std.specs.Prelude.{All, min, nat_lt}
use Rattle.std.proofs.Math.Nat.{div-lt_iff_lt-mul}
use Rattle.std.proofs.lemmas.Nat.{div-mul-add, mod-mul-add, mod_below}
use Rattle.std.proofs.lemmas.Bool.{both_ways, cases_Bool, cases_lt, false_from_ne_true, le-ltb, lt-ltb, le-leb, ltb-true, leb-true, and_parts}
use Rattle.std.proofs.lemmas.List.Elements.{All-filter}
use Rattle.std.proofs.lemmas.List.Folds.{list_any_at, list_any_none}
use Rattle.std.proofs.lemmas.Map.Views.{any-filter_same}
use Rattle.std.proofs.lemmas.List.Sums.{count_by-le-length, length-filter}
use Rattle.orca_base.specs.declared.area.Area.{Area}
use Rattle.orca_base.specs.declared.place.Place.{Place}
use Rattle.orca_base.specs.Areas.{corner_of, size_of}
use Rattle.orca_base.specs.Edits.{is_in_area, is_within, moved, origin}
use Rattle.orca_base.specs.Grids.{Size, IsInside, is_place, cells_of}
use Rattle.orca_base.proofs.PlaceFacts.{index-below, is_place-same, is_place-refl}
use Rattle.orca_base.proofs.SheetFacts.{length-by_place, number-by_place}
use Rattle.orca_op.specs.Slate.{is_listed}
use Rattle.orca_board.specs.Blocks.{image, nth_place, places_in, places_outside}
use Rattle.orca_board.specs.Sizes.{cut_places, whole}

-- where a place of an area stands
pub record IsBetween (area : Area) (at : Place) : Type 0 where
  pub top : area.y ≤ at.y
  pub bottom : at.y < area.y + area.h
  pub left : area.x ≤ at.x
  pub right : at.x < area.x + area.w

-- the row and the column of a number, within the area
pub record IsNumber (area : Area) (n : ℕ) : Type 0 where
  pub row : n / area.w < area.h
  pub column : n % area.w < area.w

is_number : (area : Area) (n : ℕ) → n < area.h * area.w → IsNumber area n
is_number area n below =
    let some : 0 < area.w = elim (cases_lt 0 area.w) [
      | inl above ↦ above
      | inr none ↦ absurd (let zero : area.w
          ≡ 0 = omega arith in let no : n < area.h * 0 = subst (λ (w : ℕ). n < area.h * w) zero
          below in omega arith)
    ] in
    record {
      row = (div-lt_iff_lt-mul {k = area.w} {x = n} {y = area.h} some).1 below;
      column = mod_below n area.w some;
    }

pub between-nth : (area : Area) (n : ℕ) → n < area.h * area.w → IsBetween area (nth_place area n)
between-nth area n below =
    let number = is_number area n below in
    record {
      top = omega arith;
      bottom = omega (arith, number.row);
      left = omega arith;
      right = omega (arith, number.column);
    }

pub between-test : (area : Area) (at : Place) → is_in_area area at ≡ true → IsBetween area at
between-test area at is =
    let first = and_parts _ _ is in
    let second = and_parts _ _ first.0 in
    let third = and_parts _ _ second.0 in
    record {
      top = leb-true _ _ third.0;
      bottom = ltb-true _ _ third.1;
      left = leb-true _ _ second.1;
      right = ltb-true _ _ first.1;
    }

pub test-between : (area : Area) (at : Place) → IsBetween area at → is_in_area area at ≡ true
test-between area at is =
    rw (
      le-leb area.y at.y is.top,
      lt-ltb at.y (area.y + area.h) is.bottom,
      le-leb area.x at.x
          is.left,
      lt-ltb at.x (area.x + area.w) is.right,
    ) refl

-- the place of a number, among the places of an area
get_or-places_in : (area : Area) (n : ℕ) (default : Place) → n < area.h * area.w
    → get_or (places_in area) n default ≡ nth_place area n
get_or-places_in area n default below = number-by_place (size_of area)
    (moved origin (corner_of area)) n default below

pub length-places_in : (area : Area) → length (places_in area) ≡ area.h * area.w
length-places_in area = length-by_place (size_of area) (moved origin (corner_of area))

All-places_in : (P : Place → Type 0) (area : Area) → ((at : Place) → IsBetween area at → P at)
    → All P (places_in area)
All-places_in P area each n default below =
    let small : n < area.h * area.w = omega (arith, below, length-places_in area) in
    subst P (sym (get_or-places_in area n default small))
    (each (nth_place area n) (between-nth area n small))

-- the number of a place of an area
number_in : Area → Place → ℕ
number_in area at = (at.y - area.y) * area.w + (at.x - area.x)

place_by : ℕ → ℕ → Place
place_by y x = record { y = y; x = x }

nth-number_in : (area : Area) (at : Place) → IsBetween area at
    → nth_place area (number_in area at) ≡ at
unfolding number_in place_by
nth-number_in area at is =
    let inside : at.x - area.x < area.w = omega (arith, is.left, is.right) in
    let row : (number_in area at) / area.w
    ≡ at.y - area.y = div-mul-add (at.y - area.y) area.w (at.x - area.x) inside in
    let column : (number_in area at) % area.w
    ≡ at.x - area.x = mod-mul-add (at.y - area.y) area.w (at.x - area.x) inside in
    let y : area.y + (number_in area at / area.w - 0) ≡ at.y = omega (arith, row, is.top) in
    let x : area.x + (number_in area at % area.w - 0) ≡ at.x = omega (arith, column, is.left) in
    ap (λ (r : ℕ). place_by r (area.x + (number_in area at % area.w - 0))) y
    ∙ ap (place_by at.y) x

-- the places of an area are those that lie in it
pub is_listed-places_in : (area : Area) (at : Place)
    → is_listed (places_in area) at ≡ is_in_area area at
unfolding number_in
is_listed-places_in area at = elim (cases_Bool (is_in_area area at)) [
  | inl is ↦
      let between = between-test area at is in
      let row : at.y - area.y < area.h = omega (arith, between.top, between.bottom) in
      let column : at.x - area.x < area.w = omega (arith, between.left, between.right) in
      let below : number_in area at < area.h * area.w = index-below (at.y - area.y)
      (at.x - area.x) area.h area.w row column in
      list_any_at (is_place at) (places_in area) (number_in area at) at
      (omega (arith, below, length-places_in area))
      (subst (λ (p : Place). is_place at p ≡ true)
      (sym (get_or-places_in area (number_in area at) at below ∙ nth-number_in area at between))
      (is_place-refl at))
      ∙ sym is
  | inr out ↦
      list_any_none (is_place at) (places_in area)
      (All-places_in (λ p. is_place at p ≡ false) area (λ p between.
      false_from_ne_true _ (λ same. both_ways _ out
      (subst (λ (q : Place). is_in_area area q ≡ true) (sym (is_place-same at p same))
      (test-between area p between)))))
      ∙ sym out
]

-- the places of an area that lie outside another are listed
pub is_listed-places_outside : (area other : Area) (at : Place)
    → is_listed (places_outside area other) at ≡ (not (is_in_area other at) && is_in_area area at)
is_listed-places_outside area other at =
    any-filter_same (is_place at) (λ p. not (is_in_area other p)) (not (is_in_area other at))
    (λ p same. ap (λ (q : Place). not (is_in_area other q)) (sym (is_place-same at p same)))
    (places_in area)
    ∙ ap (λ (b : Bool). not (is_in_area other at) && b) (is_listed-places_in area at)

-- the places of an area within a grid lie in the grid
pub inside-places_in : (d : Size) (area : Area) → area.y + area.h ≤ d.h → area.x + area.w ≤ d.w
    → All (IsInside d) (places_in area)
inside-places_in d area bottom right =
    All-places_in (IsInside d) area
    (λ at is. record {
      row = omega (arith, is.bottom, bottom);
      column = omega
          (arith, is.right, right);
    })

pub inside-places_outside : (d : Size) (area other : Area) → area.y + area.h ≤ d.h
    → area.x + area.w ≤ d.w → All (IsInside d) (places_outside area other)
inside-places_outside d area other bottom right =
    All-filter (λ at. not (is_in_area other at)) (IsInside d) (places_in area)
    (inside-places_in d area bottom right)

-- ---- the image of a block

same_test : (n a b : ℕ) → (n < a → n < b) → (n < b → n < a) → nat_lt n a ≡ nat_lt n b
same_test n a b there back = elim (cases_lt n a) [
  | inl below ↦ lt-ltb n a below ∙ sym (lt-ltb n b (there below))
  | inr above ↦ le-ltb n a above ∙ sym (elim (cases_lt n b) [
    | inl below ↦ absurd (omega (arith, back below, above))
    | inr past ↦ le-ltb n b past
  ])
]

side : (at to size d : ℕ) → at < d → to < d
    → nat_lt at (to + (min (to + size) d - to)) ≡ nat_lt at (to + size)
side at to size d inside start =
    same_test at (to + (min (to + size) d - to)) (to + size) (λ below. omega arith)
    (λ below. omega arith)

-- a place of the grid lies in the image of a block where it lies in the block
pub in-image : (d : Size) (to : Place) (size : Size) (at : Place) → IsInside d to → IsInside d at
    → is_in_area (image d to size) at ≡ is_within to size at
in-image d to size at start inside =
    rw (
      side at.y to.y size.h d.h inside.row start.row,
      side at.x to.x size.w d.w inside.column
          start.column,
    ) refl

pub record ImageFits (d : Size) (area : Area) : Type 0 where
  pub bottom : area.y + area.h ≤ d.h
  pub right : area.x + area.w ≤ d.w

pub image-fits : (d : Size) (to : Place) (size : Size) → IsInside d to
    → ImageFits d (image d to size)
image-fits d to size start = record
    { bottom = omega (arith, start.row); right = omega (arith, start.column) }

-- a size cuts off at most all places
pub length-cut_places : (d to : Size) → length (cut_places d to) ≤ cells_of d
length-cut_places d to =
    omega (
      arith,
      length-filter (λ at. not (is_in_area (whole to) at)) (places_in (whole d)),
      count_by-le-length (λ at. not (is_in_area (whole to) at)) (places_in (whole d)),
      length-places_in (whole d),
    )

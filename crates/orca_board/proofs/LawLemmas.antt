-- Places of which none stands twice, and their listing.
use Rattle.std.proofs.Common.{◌≡◌, ℕ, zero, suc, ◌+◌, ◌-◌, ◌*◌, ◌/◌, ◌%◌, ◌<◌, ◌≤◌, Bool, true, false, not, List, [], ◌∷◌, ◌++◌, append_assoc, refl, arith, ap, subst, sym, ◌∙◌, inl, inr, zero-add}
use Rattle.std.specs.Prelude.{All, Some, filter}
use Rattle.std.specs.List.{AllByRecursion, IsDistinct}
use Rattle.std.proofs.Math.Numerals.{suc-eq-add-one}
use Rattle.std.proofs.lemmas.Nat.{div-add-mod'}
use Rattle.std.proofs.lemmas.Bool.{cases_Bool, false_from_ne_true, or_parts}
use Rattle.std.proofs.lemmas.List.Elements.{recursion_from_All}
use Rattle.std.proofs.lemmas.List.Folds.{list_any-append}
use Rattle.std.proofs.lemmas.List.FromFn.{map-range_with_len_more}
use Rattle.std.proofs.lemmas.List.{append-nil}
use Rattle.std.proofs.lemmas.Map.Keys.{IsDistinct-push}
use Rattle.orca_base.specs.declared.area.Area.{Area}
use Rattle.orca_base.specs.declared.place.Place.{Place}
use Rattle.orca_base.specs.Areas.{IsArea, size_of}
use Rattle.orca_base.specs.Edits.{is_in_area}
use Rattle.orca_base.specs.Grids.{Size, IsInside, is_place}
use Rattle.orca_base.proofs.PlaceFacts.{is_inside-inside, is_place-same}
use Rattle.orca_op.specs.Slate.{is_listed, list_with}
use Rattle.orca_op.proofs.SlateFacts.{IsEquivalence-is_place}
use Rattle.orca_board.specs.Blocks.{image, list_each, nth_place, places_in, places_outside, put_places, shift_places}
use Rattle.orca_board.specs.Laws.{AreAllListed}
use Rattle.orca_board.specs.Sizes.{cut_places, whole}
use Rattle.orca_board.proofs.BlockLemmas.{first_places, first_places-all}
use Rattle.orca_board.proofs.BlockPlaces.{image-fits, inside-places_in, inside-places_outside, is_listed-places_in}

-- ---- places that are listed one after the other

-- none of these places is among the others
abbrev AreApart : List Place → List Place → Type 0
AreApart listed places = AllByRecursion (λ p. is_listed listed p ≡ false) places

apart-more : (listed : List Place) (p : Place) (places : List Place)
    → AreApart listed places → AllByRecursion (λ q. is_place p q ≡ false) places
    → AreApart (listed ++ p ∷ []) places
apart-more listed p [] apart others = tt
apart-more listed p (q ∷ places) apart others =
    let other : is_place q p ≡ false = IsEquivalence-is_place.symm q p ∙ others.0 in (
      list_any-append (is_place q) listed (p ∷ []) ∙ (rw (apart.0, other) refl),
      apart-more listed p places apart.1 others.1,
    )

listed-more : (d : Size) (listed places : List Place) → AllByRecursion (IsInside d) places
    → IsDistinct is_place places → AreApart listed places
    → list_each d listed places ≡ listed ++ places
unfolding IsDistinct
listed-more d listed [] inside once apart = sym (append-nil listed)
listed-more d listed (p ∷ places) inside once apart =
    let here : list_with d listed (Some p) ≡ listed ++ p ∷ [] =
    rw (is_inside-inside d p inside.0, apart.0) refl in
    ap (λ (now : List Place). list_each d now places) here
    ∙ (listed-more d (listed ++ p ∷ []) places inside.1 once.1
    (apart-more listed p places apart.1 once.0)
    ∙ append_assoc listed (p ∷ []) places)

none-apart : (places : List Place) → AreApart [] places
none-apart [] = tt
none-apart (p ∷ places) = (refl, none-apart places)

pub all-listed : (d : Size) (places : List Place) → All (IsInside d) places
    → IsDistinct is_place places → AreAllListed d places
all-listed d places inside once =
    listed-more d [] places (recursion_from_All (IsInside d) places inside) once (none-apart places)

-- ---- places of which none stands twice

-- the number of a place of an area
number_of : Area → Place → ℕ
number_of area at = (at.y - area.y) * area.w + (at.x - area.x)

number-nth : (area : Area) (n : ℕ) → number_of area (nth_place area n) ≡ n
unfolding number_of
number-nth area n =
    let row : area.y + (n / area.w - 0) - area.y ≡ n / area.w = omega arith in
    let column : area.x + (n % area.w - 0) - area.x ≡ n % area.w = omega arith in
    ap (λ (y : ℕ). y * area.w + (area.x + (n % area.w - 0) - area.x)) row
    ∙ (ap (λ (x : ℕ). n / area.w * area.w + x) column ∙ div-add-mod' n area.w)

nth-apart : (area : Area) (n k : ℕ) → k < n → is_place (nth_place area n) (nth_place area k) ≡ false
nth-apart area n k below =
    false_from_ne_true _ (λ same.
    let one : n ≡ k = sym (number-nth area n)
    ∙ (ap (number_of area) (is_place-same (nth_place area n) (nth_place area k) same)
    ∙ number-nth area k) in
    absurd (omega (arith, one, below)))

first-more : (area : Area) (n : ℕ)
    → first_places area (suc n) ≡ first_places area n ++ nth_place area n ∷ []
first-more area n =
    ap (first_places area) (suc-eq-add-one n)
    ∙ map-range_with_len_more (nth_place area) 0 n n (zero-add n)

absent-first : (area : Area) (n k : ℕ) → k ≤ n
    → is_listed (first_places area k) (nth_place area n) ≡ false
absent-first area n zero few = refl
absent-first area n (suc k) few =
    ap (λ (places : List Place). is_listed places (nth_place area n)) (first-more area k)
    ∙ (list_any-append (is_place (nth_place area n)) (first_places area k) (nth_place area k ∷ [])
    ∙ (rw (
      absent-first area n k (omega (arith, few)),
      nth-apart area n k (omega (arith, few)),
    ) refl))

once-first : (area : Area) (n : ℕ) → IsDistinct is_place (first_places area n)
unfolding IsDistinct
once-first area zero = tt
once-first area (suc n) =
    subst (IsDistinct is_place) (sym (first-more area n))
    (IsDistinct-push IsEquivalence-is_place (first_places area n) (nth_place area n)
    (once-first area n) (absent-first area n n (omega arith)))

pub once-places_in : (area : Area) → IsDistinct is_place (places_in area)
once-places_in area =
    subst (IsDistinct is_place) (first_places-all area) (once-first area (area.h * area.w))

-- those that pass a test
all-filter : (P : Place → Type 0) (keeps : Place → Bool) (places : List Place)
    → AllByRecursion P places → AllByRecursion P (filter keeps places)
all-filter P keeps [] all = tt
all-filter P keeps (p ∷ places) all = elim (cases_Bool (keeps p)) [
  | inl is ↦ rw is (all.0, all-filter P keeps places all.1)
  | inr not_kept ↦ rw not_kept (all-filter P keeps places all.1)
]

once-filter : (keeps : Place → Bool) (places : List Place) → IsDistinct is_place places
    → IsDistinct is_place (filter keeps places)
unfolding IsDistinct
once-filter keeps [] once = tt
once-filter keeps (p ∷ places) once = elim (cases_Bool (keeps p)) [
  | inl is ↦ rw is (all-filter (λ q. is_place p q ≡ false) keeps places once.0, once-filter keeps places once.1)
  | inr not_kept ↦ rw not_kept (once-filter keeps places once.1)
]

passing : (keeps : Place → Bool) (places : List Place)
    → AllByRecursion (λ p. keeps p ≡ true) (filter keeps places)
passing keeps [] = tt
passing keeps (p ∷ places) = elim (cases_Bool (keeps p)) [
  | inl is ↦ rw is (is, passing keeps places)
  | inr not_kept ↦ rw not_kept (passing keeps places)
]

-- places, and then others
all-append : (P : Place → Type 0) (xs ys : List Place) → AllByRecursion P xs → AllByRecursion P ys
    → AllByRecursion P (xs ++ ys)
all-append P [] ys all more = more
all-append P (x ∷ xs) ys all more = (all.0, all-append P xs ys all.1 more)

each-other : (x : Place) (ys : List Place) → is_listed ys x ≡ false
    → AllByRecursion (λ y. is_place x y ≡ false) ys
each-other x [] none = tt
each-other x (y ∷ ys) none =
    let parts = or_parts (is_place x y) (is_listed ys x) none in
    (parts.0, each-other x ys parts.1)

once-append : (xs ys : List Place) → IsDistinct is_place xs → IsDistinct is_place ys
    → AreApart ys xs → IsDistinct is_place (xs ++ ys)
unfolding IsDistinct
once-append [] ys once more apart = more
once-append (x ∷ xs) ys once more apart = (
  all-append (λ y. is_place x y ≡ false) xs ys once.0 (each-other x ys apart.0),
  once-append xs ys once.1 more apart.1,
)

-- ---- the places of the edits

fits-area : (d : Size) (area : Area) → IsArea d area → All (IsInside d) (places_in area)
fits-area d area is = inside-places_in d area is.bottom is.right

pub fill-listed : (d : Size) (area : Area) → IsArea d area → AreAllListed d (places_in area)
fill-listed d area is =
    all-listed d (places_in area) (fits-area d area is) (once-places_in area)

pub put-listed : (d : Size) (to : Place) (size : Size) → IsInside d to
    → AreAllListed d (put_places d to size)
put-listed d to size start =
    let fits = image-fits d to size start in
    all-listed d (places_in (image d to size))
    (inside-places_in d (image d to size) fits.bottom fits.right)
    (once-places_in (image d to size))

apart-outside : (area other : Area) (places : List Place)
    → AllByRecursion (λ p. not (is_in_area other p) ≡ true) places
    → AreApart (places_in other) places
apart-outside area other [] all = tt
apart-outside area other (p ∷ places) all = (
  is_listed-places_in other p ∙ off (is_in_area other p) all.0,
  apart-outside area other places all.1,
)
  where
    off : (b : Bool) → not b ≡ true → b ≡ false
    off true is = sym is
    off false is = refl

pub shift-listed : (d : Size) (area : Area) (to : Place) → IsArea d area → IsInside d to
    → AreAllListed d (shift_places d area to)
shift-listed d area to is start =
    let target : Area = image d to (size_of area) in
    let fits = image-fits d to (size_of area) start in
    listed-more d [] (shift_places d area to)
    (all-append (IsInside d) (places_outside area target) (places_in target)
    (recursion_from_All (IsInside d) (places_outside area target)
    (inside-places_outside d area target is.bottom is.right))
    (recursion_from_All (IsInside d) (places_in target)
    (inside-places_in d target fits.bottom fits.right)))
    (once-append (places_outside area target) (places_in target)
    (once-filter (λ at. not (is_in_area target at)) (places_in area) (once-places_in area))
    (once-places_in target)
    (apart-outside area target (places_outside area target)
    (passing (λ at. not (is_in_area target at)) (places_in area))))
    (none-apart (shift_places d area to))

pub cut-all_listed : (d to : Size) → AreAllListed d (cut_places d to)
cut-all_listed d to =
    all-listed d (cut_places d to)
    (inside-places_outside d (whole d) (whole to) (omega arith) (omega arith))
    (once-filter (λ at. not (is_in_area (whole to) at)) (places_in (whole d))
    (once-places_in (whole d)))

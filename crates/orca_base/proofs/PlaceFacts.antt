-- Places, their numbers in reading order, and spots.
use Rattle.std.proofs.Common.{◌≡◌, ℕ, ◌+◌, ◌*◌, ◌/◌, ◌%◌, ◌<◌, Bool, true, false, ◌==◌, ◌&&◌, Some, None, arith, ap, ◌∙◌, sym, refl, inl, inr, add-zero}
use Rattle.std.specs.Prelude.{nat_lt, pos, negsuc, ℤ, if◌then◌else◌, IfSome}
use Rattle.std.proofs.Math.Nat.{div-lt_iff_lt-mul}
use Rattle.std.proofs.lemmas.Nat.{div-mul-add}
use Rattle.std.proofs.lemmas.Bool.{eq-eqb, lt-ltb}
use Rattle.std.proofs.lemmas.Bool.Decides.{eqb_tells, nat_tests}
use Rattle.orca_base.specs.declared.place.Place.{Place}
use Rattle.orca_base.specs.declared.place.Spot.{Spot}
use Rattle.orca_base.specs.Grids.{Size, IsSize, IsInside, cells_of, index_of, place_of, place_in, place_at, is_inside, is_place, here}

-- the number of a place of the grid is below the number of places
pub index-below : (y x h w : ℕ) → y < h → x < w → y * w + x < h * w
index-below y x h w row column = grind arith

pub index_of-below : (d : Size) (at : Place) → IsInside d at → index_of d at < cells_of d
index_of-below d at inside = index-below at.y at.x d.h d.w inside.row inside.column

-- the place of a number below the number of places lies in the grid
pub inside-place_of : (d : Size) (n : ℕ) → IsSize d → n < cells_of d → IsInside d (place_of d n)
inside-place_of d n size below =
    let some : 0 < d.w = omega (arith, size.columns) in
    record {
      row = (div-lt_iff_lt-mul {k = d.w} {x = n} {y = d.h} some).1 below;
      column =
          omega arith;
    }

-- places and numbers give each other back
pub index_of-place_of : (d : Size) (n : ℕ) → IsSize d → index_of d (place_of d n) ≡ n
index_of-place_of d n size = let some : 0 < d.w = omega (arith, size.columns) in grind arith

pub place_of-index_of : (d : Size) (at : Place) → IsInside d at → place_of d (index_of d at) ≡ at
place_of-index_of d at inside =
    let row : (at.y * d.w + at.x) / d.w ≡ at.y = div-mul-add at.y d.w at.x inside.column in
    let column : (at.y * d.w + at.x) % d.w ≡ at.x = grind (arith, row) in
    rw (row, column) refl

-- the number of a place gives its row and its column
pub index-injective : (w y x y' x' : ℕ) → x < w → x' < w → y * w + x ≡ y' * w + x'
    → (y ≡ y') × (x ≡ x')
index-injective w y x y' x' inside inside' same =
    let row : y ≡ y' = sym (div-mul-add y w x inside)
    ∙ (ap (λ n. n / w) same ∙ div-mul-add y' w x' inside') in
    let rows : y * w ≡ y' * w = ap (λ n. n * w) row in
    (row, omega arith)

tests_agree : (p q r s i j : ℕ) → (i ≡ j → (p ≡ q) × (r ≡ s)) → (p ≡ q → r ≡ s → i ≡ j)
    → ((p == q) && (r == s)) ≡ (i == j)
tests_agree p q r s i j apart together =
    elim (eqb_tells i j) [
      | inl same ↦ rw (same.0, eq-eqb p q (apart same.1).0, eq-eqb r s (apart same.1).1) refl
      | inr other ↦ elim (eqb_tells p q) [
        | inl row ↦ elim (eqb_tells r s) [
          | inl column ↦ absurd (other.1 (together row.1 column.1))
          | inr column ↦ rw (other.0, row.0, column.0) refl
        ]
        | inr row ↦ rw (other.0, row.0) refl
      ]
    ]

-- places of the grid are one where their numbers are
pub is_place-index : (d : Size) (a b : Place) → IsInside d a → IsInside d b
    → is_place a b ≡ (index_of d a == index_of d b)
is_place-index d a b inside_a inside_b =
    tests_agree a.y b.y a.x b.x (index_of d a) (index_of d b)
    (index-injective d.w a.y a.x b.y b.x inside_a.column inside_b.column)
    (λ row column. rw (row, column) refl)

abbrev place_by : ℕ → ℕ → Place
place_by y x = record { y = y; x = x }

both_same : (y x y' x' : ℕ) → y ≡ y' → x ≡ x' → place_by y x ≡ place_by y' x'
both_same y x y' x' row column = ap (λ n. place_by n x) row ∙ ap (place_by y') column

-- the test of places tells whether they are one
pub is_place-same : (a b : Place) → is_place a b ≡ true → a ≡ b
is_place-same a b same =
    let row : a.y ≡ b.y = grind (arith, nat_tests) in
    let column : a.x ≡ b.x = grind (arith, nat_tests) in
    both_same a.y a.x b.y b.x row column

pub is_place-refl : (a : Place) → is_place a a ≡ true
is_place-refl a = rw (eq-eqb a.y a.y refl, eq-eqb a.x a.x refl) refl

-- the test of a place in the grid
pub is_inside-inside : (d : Size) (at : Place) → IsInside d at → is_inside d at ≡ true
is_inside-inside d at inside = rw (lt-ltb at.y d.h inside.row, lt-ltb at.x d.w inside.column) refl

pub inside-is_inside : (d : Size) (at : Place) → is_inside d at ≡ true → IsInside d at
inside-is_inside d at test = record {
  row = grind (arith, nat_tests);
  column =
      grind (arith, nat_tests);
}

-- the spot of a place in the grid is that place
pub place_in-here : (d : Size) (at : Place) → IsInside d at → place_in d (here at) ≡ Some at
place_in-here d at inside = rw (
  add-zero at.y,
  add-zero at.x,
  lt-ltb at.y d.h inside.row,
  lt-ltb
      at.x d.w inside.column,
) refl

inside_if : (d : Size) (y x : ℕ) (test : Bool) → test ≡ (nat_lt y d.h && nat_lt x d.w)
    → IfSome (if test then Some (record { y = y; x = x }) else None) (IsInside d)
inside_if d y x true is = inside-is_inside d (record { y = y; x = x }) (sym is)
inside_if d y x false is = tt

inside_at : (d : Size) (y x : ℤ) → IfSome (place_at d y x) (IsInside d)
inside_at d (pos y) (pos x) = inside_if d y x _ refl
inside_at d (pos y) (negsuc x) = tt
inside_at d (negsuc y) x = tt

-- the place of a spot lies in the grid
pub inside-place_in : (d : Size) (spot : Spot) → IfSome (place_in d spot) (IsInside d)
inside-place_in d spot = inside_at d spot.y spot.x

-- two places of the grid that differ have different numbers
pub index-apart : (d : Size) (a b : Place) → IsInside d a → IsInside d b → is_place a b ≡ false
    → index_of d a ≡ index_of d b → ⊥
index-apart d a b inside_a inside_b apart same =
    let parts = index-injective d.w a.y a.x b.y b.x inside_a.column inside_b.column same in
    let test : is_place a b ≡ true = rw (eq-eqb a.y b.y parts.0, eq-eqb a.x b.x parts.1) refl in
    cc

-- Grids of glyphs, by their places.
use Rattle.std.proofs.Common.{◌≡◌, ℕ, zero, suc, ◌<◌, List, [], ◌∷◌, length, get_or, arith, ap, ◌∙◌, sym, subst, zero-add, inl, inr, Bool, true, false, refl}
use Rattle.std.proofs.Math.ListN.{set}
use Rattle.std.specs.Prelude.{slice_index, if◌then◌else◌}
use Rattle.std.proofs.lemmas.List.{ext_get_or, get_or-set_same, get_or-set_other, length-set}
use Rattle.std.proofs.lemmas.Bool.{cases_Bool}
use Rattle.std.proofs.lemmas.List.FromFn.{length-map-range_with_len, get_or-map-range_with_len}
use Rattle.orca_base.specs.declared.place.Place.{Place}
use Rattle.orca_base.specs.Glyphs.{IsGlyph, AreGlyphs, empty}
use Rattle.orca_base.specs.Grids.{Size, IsSize, IsInside, Sheet, IsSheet, cells_of, by_place, sheet_by, glyph_at, index_of, is_inside, place_of, is_place}
use Rattle.orca_base.proofs.PlaceFacts.{index_of-below, inside-is_inside, inside-place_of, index_of-place_of, place_of-index_of, is_place-same, index-apart}
use Rattle.orca_base.specs.Edits.{sheet_after_resize}

-- a number read inside a list of glyphs is a glyph
pub IsGlyph-index : (xs : List ℕ) (i : ℕ) → AreGlyphs xs → i < length xs
    → IsGlyph (slice_index xs i)
IsGlyph-index [] i all below = absurd (omega arith)
IsGlyph-index (x ∷ xs) zero all below = all.0
IsGlyph-index (x ∷ xs) (suc i) all below = let rest : i < length xs =
    omega arith in IsGlyph-index xs i all.1 rest

-- a glyph put among glyphs
pub AreGlyphs-set : (xs : List ℕ) (i glyph : ℕ) → AreGlyphs xs → IsGlyph glyph
    → AreGlyphs (set xs i glyph)
AreGlyphs-set [] i glyph all is = tt
AreGlyphs-set (x ∷ xs) zero glyph all is = (is, all.1)
AreGlyphs-set (x ∷ xs) (suc i) glyph all is = (all.0, AreGlyphs-set xs i glyph all.1 is)

-- a list is of glyphs where each of its elements is one
pub AreGlyphs-each : (xs : List ℕ) → ((i : ℕ) → i < length xs → IsGlyph (slice_index xs i))
    → AreGlyphs xs
AreGlyphs-each [] each = tt
AreGlyphs-each (x ∷ xs) each = (
  each zero (omega arith),
  AreGlyphs-each xs
      (λ i below. each (suc i) (omega arith)),
)

-- what stands at a place of a grid is a glyph
pub IsGlyph-glyph_at : (g : Sheet) (at : Place) → IsSheet g → IsInside g.dims at
    → IsGlyph (glyph_at g at)
IsGlyph-glyph_at g at sheet inside =
    IsGlyph-index g.cells (index_of g.dims at) sheet.glyphs
    (omega (arith, index_of-below g.dims at inside, sheet.whole))

-- ---- what a function gives to the places, in reading order

pub length-by_place : {A : Type 0} (d : Size) (f : Place → A) → length (by_place d f) ≡ cells_of d
unfolding by_place
length-by_place d f = length-map-range_with_len (λ n. f (place_of d n)) 0 (cells_of d)

-- at a number
pub number-by_place : {A : Type 0} (d : Size) (f : Place → A) (n : ℕ) (x : A) → n < cells_of d
    → get_or (by_place d f) n x ≡ f (place_of d n)
unfolding by_place
number-by_place d f n x below =
    get_or-map-range_with_len (λ n. f (place_of d n)) 0 (cells_of d) n n x below (zero-add n)

-- at a place
pub index-by_place : {A : Type 0} (d : Size) (f : Place → A) (at : Place) (x : A) → IsInside d at
    → get_or (by_place d f) (index_of d at) x ≡ f at
index-by_place d f at x inside =
    number-by_place d f (index_of d at) x (index_of-below d at inside)
    ∙ ap f (place_of-index_of d at inside)

-- as many things as places, each of which is what the function gives to its place
pub list-by_place : {A : Type 0} (d : Size) (xs : List A) (f : Place → A) (x : A) → IsSize d
    → length xs ≡ cells_of d → ((at : Place) → IsInside d at → get_or xs (index_of d at) x ≡ f at)
    → xs ≡ by_place d f
list-by_place d xs f x size whole each =
    ext_get_or x xs (by_place d f) (whole ∙ sym (length-by_place d f)) (λ i below.
    let few : i < cells_of d = omega (arith, below, whole) in
    let at : Place = place_of d i in
    ap (λ (n : ℕ). get_or xs n x) (sym (index_of-place_of d i size))
    ∙ (each at (inside-place_of d i size few) ∙ sym (number-by_place d f i x few)))

-- functions that agree give the same
pub same-by_place : {A : Type 0} (d : Size) (f h : Place → A) (x : A) → IsSize d
    → ((at : Place) → IsInside d at → f at ≡ h at) → by_place d f ≡ by_place d h
same-by_place d f h x size agree =
    list-by_place d (by_place d f) h x size (length-by_place d f)
    (λ at inside. index-by_place d f at x inside ∙ agree at inside)

-- one place changed
pub set-by_place : {A : Type 0} (d : Size) (f h : Place → A) (at : Place) (y x : A) → IsSize d
    → IsInside d at → h at ≡ y → ((q : Place) → IsInside d q → is_place q at ≡ false → h q ≡ f q)
    → set (by_place d f) (index_of d at) y ≡ by_place d h
set-by_place d f h at y x size inside here other =
    list-by_place d (set (by_place d f) (index_of d at) y) h x size
    (length-set (by_place d f) (index_of d at) y ∙ length-by_place d f) (λ q inside_q.
    elim (cases_Bool (is_place q at)) [
      | inl same ↦
          let one : q ≡ at = is_place-same q at same in
          rw one (get_or-set_same (by_place d f) (index_of d at) y x
          (omega (arith, index_of-below d at inside, length-by_place d f)) ∙ sym here)
      | inr apart ↦
          get_or-set_other (by_place d f) (index_of d at) (index_of d q) y x
          (index-apart d q at inside_q inside apart)
          ∙ (index-by_place d f q x inside_q ∙ sym (other q inside_q apart))
    ])

-- ---- the grid of a function from places to glyphs

pub glyph_at-sheet_by : (d : Size) (glyph : Place → ℕ) (at : Place) → IsInside d at
    → glyph_at (sheet_by d glyph) at ≡ glyph at
glyph_at-sheet_by d glyph at inside = index-by_place d glyph at 0 inside

pub AreGlyphs-by_place : (d : Size) (glyph : Place → ℕ) → IsSize d
    → ((at : Place) → IsInside d at → IsGlyph (glyph at)) → AreGlyphs (by_place d glyph)
AreGlyphs-by_place d glyph size each =
    AreGlyphs-each (by_place d glyph) (λ i below.
    let few : i < cells_of d = omega (arith, below, length-by_place d glyph) in
    subst IsGlyph (sym (number-by_place d glyph i 0 few))
    (each (place_of d i) (inside-place_of d i size few)))

pub IsSheet-sheet_by : (d : Size) (glyph : Place → ℕ) → IsSize d
    → ((at : Place) → IsInside d at → IsGlyph (glyph at)) → IsSheet (sheet_by d glyph)
IsSheet-sheet_by d glyph size each =
    record {
      size = size;
      whole = length-by_place d glyph;
      glyphs = AreGlyphs-by_place d glyph size
          each;
    }

-- a grid that holds the glyphs of a function is the grid of that function
pub sheet-same : (g : Sheet) (glyph : Place → ℕ) → IsSize g.dims → length g.cells ≡ cells_of g.dims
    → ((at : Place) → IsInside g.dims at → glyph_at g at ≡ glyph at) → g ≡ sheet_by g.dims glyph
sheet-same g glyph size whole each =
    ap (λ (c : List ℕ). record { dims = g.dims; cells = c })
    (list-by_place g.dims g.cells glyph 0 size whole each)

-- a grid of another size is a grid
pub IsSheet-resize : (g : Sheet) (d : Size) → IsSheet g → IsSize d
    → IsSheet (sheet_after_resize g d)
IsSheet-resize g d sheet size =
    IsSheet-sheet_by d (λ at. if is_inside g.dims at then glyph_at g at else empty) size
    (λ at inside. each at (is_inside g.dims at) (inside-is_inside g.dims at))
  where
    each : (at : Place) (b : Bool) → (b ≡ true → IsInside g.dims at)
        → IsGlyph (if b then glyph_at g at else empty)
    each at true in_grid = IsGlyph-glyph_at g at sheet (in_grid refl)
    each at false in_grid = (omega arith, omega arith)

-- Places written in order: the slate that they leave.
use Rattle.std.proofs.Common.{◌≡◌, ℕ, ◌*◌, Bool, true, false, ◌||◌, List, [], ◌∷◌, ◌++◌, length, refl, arith, ap, sym, ◌∙◌, subst, inl, inr}
use Rattle.std.proofs.Math.ListN.{set}
use Rattle.std.specs.Prelude.{All, Some, map, if◌then◌else◌, slice_index}
use Rattle.std.specs.List.{range_with_len, AllByRecursion}
use Rattle.std.proofs.lemmas.Bool.{cases_Bool}
use Rattle.std.proofs.lemmas.List.{get_or-set_same, length-set, map_push}
use Rattle.std.proofs.lemmas.List.Elements.{recursion_from_All}
use Rattle.orca_base.specs.declared.area.Area.{Area}
use Rattle.orca_base.specs.declared.place.Place.{Place}
use Rattle.orca_base.specs.Grids.{Size, Sheet, IsSize, IsInside, by_place, cells_of, here, index_of, is_place, sheet_by}
use Rattle.orca_base.proofs.PlaceFacts.{index_of-below, is_place-same, place_in-here}
use Rattle.orca_base.proofs.SheetFacts.{list-by_place, same-by_place}
use Rattle.orca_op.specs.State.{State, state_glyph}
use Rattle.orca_op.specs.Deeds.{Write, after}
use Rattle.orca_op.specs.Slate.{Slate, slate_after, slate_after_all, is_listed, list_after, list_with}
use Rattle.orca_op.proofs.LawFacts.{slate_after_all-append}
use Rattle.orca_op.proofs.SlateFacts.{glyph_at-write_other}
use Rattle.orca_board.specs.Blocks.{list_each, slate_after_edit, nth_place, places_in, write_each}

-- ---- a loop over the places of an area

-- the first places of an area
abbrev pub first_places : Area → ℕ → List Place
first_places area n = map (nth_place area) (range_with_len 0 n)

pub first_places-all : (area : Area) → first_places area (area.h * area.w) ≡ places_in area
unfolding by_place
first_places-all area = refl

pub write_each-push : (d : Slate) (glyph : Place → ℕ) (places : List Place) (at : Place)
    → slate_after_all d (write_each glyph (places ++ at ∷ []))
    ≡ slate_after (slate_after_all d (write_each glyph places)) (Write (here at) (glyph at))
write_each-push d glyph places at =
    ap (slate_after_all d) (map_push (λ (p : Place). Write (here p) (glyph p)) places at)
    ∙ slate_after_all-append d (write_each glyph places) (Write (here at) (glyph at) ∷ [])

-- ---- the slate that is left

-- the slate after one place of the grid is written
abbrev slate_with : Slate → Place → ℕ → Slate
slate_with d at glyph = record {
  scan = record d.scan { cells = set d.scan.cells (index_of d.scan.dims at) glyph };
  began = d.began;
  listed = list_with d.began.dims d.listed (Some at);
}

slate_after-write : (d : Slate) (at : Place) (glyph : ℕ) → IsInside d.scan.dims at
    → slate_after d (Write (here at) glyph) ≡ slate_with d at glyph
unfolding after list_after
slate_after-write d at glyph inside = rw (place_in-here d.scan.dims at inside) refl

-- what stands at a place after one place, and then more, are written
stands : (s : State) (glyph : Place → ℕ) (p : Place) (places : List Place) (at : Place)
    → length s.cells ≡ cells_of s.dims → IsInside s.dims p → IsInside s.dims at
    → (if is_listed places at then glyph at else slice_index
    (set s.cells (index_of s.dims p) (glyph p)) (index_of s.dims at))
    ≡ (if is_place at p || is_listed places at then glyph at else state_glyph s at)
stands s glyph p places at whole inside_p inside = elim (cases_Bool (is_listed places at)) [
  | inl later ↦ rw (later, or_true (is_place at p)) refl
  | inr not_later ↦ elim (cases_Bool (is_place at p)) [
    | inl same ↦
        let one : at ≡ p = is_place-same at p same in
        rw (not_later, same) (subst
        (λ (q : Place). slice_index (set s.cells (index_of s.dims p) (glyph p))
        (index_of s.dims q) ≡ glyph q) (sym one)
        (get_or-set_same s.cells (index_of s.dims p) (glyph p) 0
        (omega (arith, index_of-below s.dims p inside_p, whole))))
    | inr other ↦ rw (not_later, other)
        (glyph_at-write_other s p at (glyph p) inside_p inside other)
  ]
]
  where
    or_true : (b : Bool) → (b || true) ≡ true
    or_true true = refl
    or_true false = refl

-- the places hold what the function gives them, and the others their glyphs of before
written : (d : Slate) (glyph : Place → ℕ) (places : List Place) → IsSize d.scan.dims
    → length d.scan.cells ≡ cells_of d.scan.dims → AllByRecursion (IsInside d.scan.dims) places
    → slate_after_all d (write_each glyph places)
    ≡ slate_after_edit d (sheet_by d.scan.dims
    (λ at. if is_listed places at then glyph at else state_glyph d.scan at)) places
written d glyph [] size whole all =
    ap (λ (cells : List ℕ). slate_after_edit d (record { dims = d.scan.dims; cells = cells }) [])
    (list-by_place d.scan.dims d.scan.cells (state_glyph d.scan) 0 size whole (λ at inside. refl))
written d glyph (p ∷ places) size whole all =
    ap (λ (e : Slate). slate_after_all e (write_each glyph places))
    (slate_after-write d p (glyph p) all.0)
    ∙ (written (slate_with d p (glyph p)) glyph places size
    (length-set d.scan.cells (index_of d.scan.dims p) (glyph p) ∙ whole) all.1
    ∙ ap (λ (cells : List ℕ). slate_after_edit d (record { dims = d.scan.dims; cells = cells })
    (p ∷ places))
    (same-by_place d.scan.dims
    (λ at. if is_listed places at then glyph at else slice_index
    (set d.scan.cells (index_of d.scan.dims p) (glyph p)) (index_of d.scan.dims at))
    (λ at. if is_place at p || is_listed places at then glyph at else state_glyph d.scan at) 0 size
    (λ at inside. stands d.scan glyph p places at whole all.0 inside)))

-- the same, where another function says what each place holds
pub after_writes : (d : Slate) (glyph : Place → ℕ) (places : List Place) (holds : Place → ℕ)
    → IsSize d.scan.dims → length d.scan.cells ≡ cells_of d.scan.dims
    → All (IsInside d.scan.dims) places
    → ((at : Place) → IsInside d.scan.dims at
    → (if is_listed places at then glyph at else state_glyph d.scan at) ≡ holds at)
    → slate_after_all d (write_each glyph places)
    ≡ slate_after_edit d (sheet_by d.scan.dims holds) places
after_writes d glyph places holds size whole all agree =
    written d glyph places size whole (recursion_from_All (IsInside d.scan.dims) places all)
    ∙ ap (λ (cells : List ℕ). slate_after_edit d (record { dims = d.scan.dims; cells = cells })
    places)
    (same-by_place d.scan.dims
    (λ at. if is_listed places at then glyph at else state_glyph d.scan at) holds 0 size agree)

list_each-append : (began : Size) (listed xs ys : List Place)
    → list_each began listed (xs ++ ys) ≡ list_each began (list_each began listed xs) ys
list_each-append began listed [] ys = refl
list_each-append began listed (x ∷ xs) ys = list_each-append began
    (list_with began listed (Some x)) xs ys

-- an edit after an edit
pub edit-edit : (d : Slate) (g h : Sheet) (xs ys : List Place)
    → slate_after_edit (slate_after_edit d g xs) h ys ≡ slate_after_edit d h (xs ++ ys)
edit-edit d g h xs ys =
    ap (λ (listed : List Place). record
    { scan = record d.scan { cells = h.cells }; began = d.began; listed = listed })
    (sym (list_each-append d.began.dims d.listed xs ys))

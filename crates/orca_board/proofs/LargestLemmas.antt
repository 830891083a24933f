-- Spots of the largest grid, seen in a grid: what a place holds, and the marks that are added,
-- counted and taken away.
use Rattle.std.proofs.Common.{◌≡◌, ℕ, ◌+◌, ◌<◌, Bool, true, false, List, length, take, get_or, arith, ap, sym, ◌∙◌, refl, inl, inr}
use Rattle.std.proofs.Math.ListN.{set}
use Rattle.std.specs.Prelude.{ℤ, pos, negsuc, Option, Some, None, count_by, if◌then◌else◌}
use Rattle.std.proofs.lemmas.Bool.{both_ways, cases_Bool}
use Rattle.std.proofs.lemmas.List.{get_or_default, get_or-replicate, get_or-set_other, length-replicate, take_all}
use Rattle.std.proofs.lemmas.List.Sums.{count_by_more_no, count_by_more_yes}
use Rattle.orca_base.specs.declared.limits.TheConstants.{MAX_CELLS}
use Rattle.orca_base.specs.declared.place.Place.{Place}
use Rattle.orca_base.specs.declared.place.Spot.{Spot}
use Rattle.orca_base.specs.Glyphs.{empty}
use Rattle.orca_base.specs.Grids.{IsSize, IsInside, Size, by_place, cells_of, index_of, is_inside, is_place, largest, place_at, place_in, place_of}
use Rattle.orca_base.specs.MarkSet.{MarkSet, all_marks, is_marked, no_marks}
use Rattle.orca_base.proofs.PlaceFacts.{index-apart, index_of-below, inside-is_inside, is_inside-inside, is_place-same}
use Rattle.orca_base.proofs.SheetFacts.{index-by_place, length-by_place, list-by_place, number-by_place, same-by_place}
use Rattle.orca_op.specs.Deeds.{Mark, after}
use Rattle.orca_op.specs.Slate.{Slate, slate_after, list_after}
use Rattle.orca_op.specs.State.{State, blank_marks, peek}
use Rattle.orca_board.specs.Board.{IsEmptyOutside, cell_in, cell_marks}
use Rattle.orca_board.proofs.BoardLemmas.{inside-largest, marked-plane}

-- ---- the place of a spot

-- a place of the largest grid, where it lies in a grid
abbrev part_in : Size → Option Place → Option Place
part_in d None = None
part_in d (Some at) = if is_inside d at then Some at else None

outside_largest : (d : Size) (at : Place) → IsSize d → is_inside largest at ≡ false
    → is_inside d at ≡ false
outside_largest d at size outside = elim (cases_Bool (is_inside d at)) [
  | inl inside ↦ absurd (both_ways _ outside
      (is_inside-inside largest at (inside-largest d at size (inside-is_inside d at inside))))
  | inr none ↦ none
]

place_at-part : (d : Size) (y x : ℤ) → IsSize d → place_at d y x ≡ part_in d (place_at largest y x)
place_at-part d (negsuc y) x size = refl
place_at-part d (pos y) (negsuc x) size = refl
place_at-part d (pos y) (pos x) size = each (is_inside largest (record { y = y; x = x })) refl
  where
    each : (b : Bool) → is_inside largest (record { y = y; x = x }) ≡ b → place_at d (pos y) (pos x)
        ≡ part_in d (place_at largest (pos y) (pos x))
    each true inside = rw inside refl
    each false outside = rw (outside, outside_largest d (record { y = y; x = x }) size outside) refl

pub place_in-part : (d : Size) (spot : Spot) → IsSize d
    → place_in d spot ≡ part_in d (place_in largest spot)
place_in-part d spot size = place_at-part d spot.y spot.x size

pub place_in-none : (d : Size) (spot : Spot) → IsSize d → place_in largest spot ≡ None
    → place_in d spot ≡ None
place_in-none d spot size none = place_in-part d spot size ∙ ap (part_in d) none

-- ---- what a spot shows

-- a cell of the largest grid, as a spot of a grid shows it
glyph_of_part : (s : State) (cells : List ℕ) (spot : Spot) (at : Place) → IsSize s.dims
    → s.cells ≡ by_place s.dims (cell_in cells) → IsEmptyOutside s.dims cells
    → place_in largest spot ≡ Some at → IsInside largest at → cell_in cells at ≡ peek s spot
unfolding peek
glyph_of_part s cells spot at size is outside place there =
    rw (place_in-part s.dims spot size, place) (each (is_inside s.dims at) refl)
  where
    each : (b : Bool) → is_inside s.dims at ≡ b
        → cell_in cells at ≡ Rattle.orca_op.specs.State.glyph_in s
        (if is_inside s.dims at then Some at else None)
    each true inside =
        rw inside (sym (ap (λ (xs : List ℕ). get_or xs (index_of s.dims at) 0) is
        ∙ index-by_place s.dims (cell_in cells) at 0 (inside-is_inside s.dims at inside)))
    each false past = rw past (outside at there past)

pub peek-some : (s : State) (cells : List ℕ) (spot : Spot) (at : Place) (i read : ℕ)
    → IsSize s.dims → s.cells ≡ by_place s.dims (cell_in cells) → IsEmptyOutside s.dims cells
    → Some at ≡ place_in largest spot → IsInside largest at → i ≡ index_of largest at → i
    < MAX_CELLS → length cells ≡ MAX_CELLS → read ≡ get_or cells i read → read ≡ peek s spot
peek-some s cells spot at i read size is outside place there number below whole shown =
    shown ∙ (get_or_default cells i read 0 (omega (arith, below, whole))
    ∙ (ap (λ (n : ℕ). get_or cells n 0) number
    ∙ glyph_of_part s cells spot at size is outside (sym place) there))

pub peek-none : (s : State) (spot : Spot) → IsSize s.dims → None ≡ place_in largest spot
    → empty ≡ peek s spot
unfolding peek
peek-none s spot size none = rw (place_in-none s.dims spot size (sym none)) refl

-- ---- marks that are added

-- a place outside the grid changes none of the grid's marks
marks_beside : (d : Size) (plane : List MarkSet) (at : Place) (m : MarkSet) → IsSize d
    → IsInside largest at → is_inside d at ≡ false
    → by_place d (cell_marks (set plane (index_of largest at) m)) ≡ by_place d (cell_marks plane)
marks_beside d plane at m size there past =
    same-by_place d (cell_marks (set plane (index_of largest at) m)) (cell_marks plane) no_marks size
    (λ q inside. get_or-set_other plane (index_of largest at) (index_of largest q) m no_marks
    (index-apart largest q at (inside-largest d q size inside) there
    (apart q inside (is_place q at) refl)))
  where
    apart : (q : Place) → IsInside d q → (b : Bool) → is_place q at ≡ b → b ≡ false
    apart q inside true same =
        absurd (both_ways _ past (ap (is_inside d) (sym (is_place-same q at same))
        ∙ is_inside-inside d q inside))
    apart q inside false same = refl

-- the slate after marks of a place of the largest grid
pub marked-part : (d : Slate) (plane : List MarkSet) (spot : Spot) (at : Place) (marks : MarkSet)
    → IsSize d.scan.dims → d.scan.marks ≡ by_place d.scan.dims (cell_marks plane)
    → length plane ≡ MAX_CELLS
    → Some at ≡ place_in largest spot → IsInside largest at
    → record d {
      scan = record d.scan {
        marks = by_place d.scan.dims
            (cell_marks (set plane (index_of largest at) (all_marks (cell_marks plane at) marks)));
      };
    } ≡ slate_after d (Mark spot marks)
unfolding after list_after
marked-part d plane spot at marks size is whole place there =
    each there (sym place) (is_inside d.scan.dims at) refl
  where
    each : IsInside largest at → place_in largest spot ≡ Some at → (b : Bool)
        → is_inside d.scan.dims at ≡ b
        → record d {
          scan = record d.scan {
            marks = by_place d.scan.dims
                (cell_marks (set plane (index_of largest at) (all_marks (cell_marks plane at) marks)));
          };
        } ≡ slate_after d (Mark spot marks)
    each in_largest found true inside =
        marked-plane d plane spot at marks size (inside-is_inside d.scan.dims at inside)
        (place_in-part d.scan.dims spot size ∙ (rw (found, inside) refl)) is whole
    each in_largest found false past =
        rw (
          place_in-part d.scan.dims spot size,
          found,
          past,
          marks_beside d.scan.dims plane at
              (all_marks (cell_marks plane at) marks) size in_largest past,
          is,
        ) refl

pub marked-none : (d : Slate) (spot : Spot) (marks : MarkSet) → IsSize d.scan.dims
    → None ≡ place_in largest spot → d ≡ slate_after d (Mark spot marks)
unfolding after list_after
marked-none d spot marks size none = rw (place_in-none d.scan.dims spot size (sym none)) refl

-- ---- marks that are taken away, and counted

-- no marks in a grid
pub cleared-by_place : (d : Size) (marks old : List MarkSet) → IsSize d
    → ((at : Place) → IsInside largest at → cell_marks marks at
    ≡ (if is_inside d at then no_marks else cell_marks old at))
    → by_place d (cell_marks marks) ≡ blank_marks d
cleared-by_place d marks old size each =
    sym (list-by_place d (blank_marks d) (cell_marks marks) no_marks size
    (length-replicate (cells_of d) no_marks) (λ at inside.
    get_or-replicate (cells_of d) (index_of d at) no_marks no_marks (index_of-below d at inside)
    ∙ sym (cleared at inside)))
  where
    cleared : (at : Place) → IsInside d at → cell_marks marks at ≡ no_marks
    cleared at inside =
        each at (inside-largest d at size inside) ∙ (rw (is_inside-inside d at inside) refl)

-- one place more of a grid is counted
pub counted_yes : (d : Size) (marks : List MarkSet) (n : ℕ) → n < cells_of d
    → is_marked (cell_marks marks (place_of d n)) ≡ true
    → count_by is_marked (take (n + 1) (by_place d (cell_marks marks)))
    ≡ count_by is_marked (take n (by_place d (cell_marks marks))) + 1
counted_yes d marks n below is =
    count_by_more_yes is_marked (by_place d (cell_marks marks)) n no_marks
    (omega (arith, length-by_place d (cell_marks marks), below))
    (ap is_marked (number-by_place d (cell_marks marks) n no_marks below) ∙ is)

pub counted_no : (d : Size) (marks : List MarkSet) (n : ℕ) → n < cells_of d
    → is_marked (cell_marks marks (place_of d n)) ≡ false
    → count_by is_marked (take (n + 1) (by_place d (cell_marks marks)))
    ≡ count_by is_marked (take n (by_place d (cell_marks marks)))
counted_no d marks n below is =
    count_by_more_no is_marked (by_place d (cell_marks marks)) n no_marks
    (omega (arith, length-by_place d (cell_marks marks), below))
    (ap is_marked (number-by_place d (cell_marks marks) n no_marks below) ∙ is)

-- all of them
pub counted_all : (d : Size) (marks : List MarkSet)
    → take (cells_of d) (by_place d (cell_marks marks)) ≡ by_place d (cell_marks marks)
counted_all d marks =
    take_all (cells_of d) (by_place d (cell_marks marks))
    (omega (arith, length-by_place d (cell_marks marks)))

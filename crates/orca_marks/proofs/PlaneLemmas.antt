-- No marks, and rows that were marked.
use Rattle.std.proofs.Common.{◌≡◌, ℕ, zero, suc, ◌+◌, ◌*◌, ◌/◌, ◌<◌, Bool, true, false, not, ◌==◌, ◌&&◌, List, [], ◌++◌, length, get_or, replicate, arith, ap, sym, ◌∙◌, refl, take, ◌-◌, inl, inr}
use Rattle.std.proofs.Math.ListN.{set}
use Rattle.std.proofs.lemmas.Bool.{both_ways, cases_lt}
use Rattle.std.proofs.lemmas.Bool.Decides.{eqb_tells, nat_tests}
use Rattle.std.proofs.lemmas.List.{get_or-replicate, get_or-set_other, get_or-set_same, get_or_past, length-replicate, length-set}
use Rattle.orca_base.proofs.ListFacts.{resized}
use Rattle.orca_base.specs.declared.limits.TheConstants.{MAX_CELLS, MAX_COLUMNS, MAX_ROWS}
use Rattle.orca_base.specs.Grids.{Size}
use Rattle.orca_base.specs.MarkSet.{MarkSet, no_marks}
use Rattle.orca_marks.specs.Planes.{IsPlane, blank}

-- ---- no marks

get_or_none : (n i : ℕ) → get_or (replicate n no_marks) i no_marks ≡ no_marks
get_or_none zero i = refl
get_or_none (suc n) zero = refl
get_or_none (suc n) (suc i) = get_or_none n i

pub length-blank : length blank ≡ MAX_CELLS
unfolding blank
length-blank = length-replicate MAX_CELLS no_marks

pub index-blank : (i : ℕ) → get_or blank i no_marks ≡ no_marks
unfolding blank
index-blank i = get_or_none MAX_CELLS i

-- an empty list that was filled up with no marks
pub filled_blank : (n len : ℕ) (marks start : List MarkSet) (m : MarkSet) → n ≡ MAX_CELLS
    → start ≡ [] → len ≡ 0 → m ≡ no_marks → marks ≡ take n start ++ replicate (n - len) m
    → marks ≡ blank
unfolding blank
filled_blank n len marks start m most none zero_long unmarked is =
    resized n len marks start m none zero_long is
    ∙ (rw unmarked (ap (λ (k : ℕ). replicate k no_marks) most))

-- ---- rows that were marked

-- a place gets marks, and its row is marked
pub plane_set : (marks : List MarkSet) (cleared : Size) (marked : List Bool) (y x i : ℕ)
    (m : MarkSet) → IsPlane marks cleared marked → y < MAX_ROWS → x < MAX_COLUMNS
    → i ≡ y * MAX_COLUMNS + x → IsPlane (set marks i m) cleared (set marked y true)
plane_set marks cleared marked y x i m plane row column number = record {
  size = length-set marks i m ∙ plane.size;
  rows = length-set marked y true ∙ plane.rows;
  clean = λ k unmarked high wide. elim (eqb_tells (k / MAX_COLUMNS) y) [
    | inl same ↦
        let here : get_or (set marked y true) (k / MAX_COLUMNS) false ≡ true =
        ap (λ (j : ℕ). get_or (set marked y true) j false) same.1
        ∙ get_or-set_same marked y true false (omega (arith, row, plane.rows)) in
        absurd (both_ways _ unmarked here)
    | inr other ↦
        get_or-set_other marks i k m no_marks (λ same_place. other.1 (omega arith))
        ∙ plane.clean k
        (sym (get_or-set_other marked y (k / MAX_COLUMNS) true false other.1) ∙ unmarked) high wide
  ];
}

-- all rows are marked, so nothing is known of any
pub plane_all : (marks : List MarkSet) (cleared : Size) → length marks ≡ MAX_CELLS
    → IsPlane marks cleared (replicate MAX_ROWS true)
plane_all marks cleared whole = record {
  size = whole;
  rows = length-replicate MAX_ROWS true;
  clean = λ k unmarked high wide. elim (cases_lt (k / MAX_COLUMNS) MAX_ROWS) [
    | inl row ↦
        absurd (both_ways _ unmarked (get_or-replicate MAX_ROWS (k / MAX_COLUMNS) true false row))
    | inr past ↦
        get_or_past marks k no_marks (omega (arith, past, whole))
  ];
}

-- the same size once more
pub plane_same : (marks : List MarkSet) (cleared dims : Size) (marked : List Bool)
    → not ((dims.h == cleared.h) && (dims.w == cleared.w)) ≡ false → IsPlane marks cleared marked
    → IsPlane marks dims marked
plane_same marks cleared dims marked same plane =
    let rows : dims.h ≡ cleared.h = grind (arith, nat_tests) in
    let columns : dims.w ≡ cleared.w = grind (arith, nat_tests) in
    record {
      size = plane.size;
      rows = plane.rows;
      clean = λ k unmarked high wide.
          plane.clean k unmarked (omega (arith, high, rows)) (omega (arith, wide, columns));
    }

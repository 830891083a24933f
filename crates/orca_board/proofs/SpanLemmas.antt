-- Marks of the places of a span, and the glyphs beside a place.
use Rattle.std.proofs.Common.{◌≡◌, ℕ, zero, suc, ◌+◌, ◌*◌, ◌<◌, ◌≤◌, ◌==◌, ◌&&◌, Bool, true, false, List, ◌∷◌, [], length, get_or, add-zero, arith, ap, sym, ◌∙◌, refl, subst, inl, inr}
use Rattle.std.specs.Prelude.{pos, negsuc, ◌+ℤ◌, ◌-◌, slice_index_or, Some, None, if◌then◌else◌, min, nat_lt, nat_le, ◌||◌, slice_index}
use Rattle.std.proofs.Math.IntN.{+ℤ-neg_ℤ_cancel}
use Rattle.std.proofs.Math.ListN.{set}
use Rattle.std.proofs.lemmas.Bool.{both_ways, cases_lt, le-ltb, lt-ltb}
use Rattle.std.proofs.lemmas.List.{get_or_default}
use Rattle.std.proofs.lemmas.Bool.Decides.{nat_tests}
use Rattle.std.proofs.Math.Bool.{and-false, and-true}
use Rattle.orca_base.specs.declared.change.Change.{Change}
use Rattle.orca_base.specs.declared.limits.TheConstants.{MAX_CELLS, MAX_COLUMNS, MAX_ROWS}
use Rattle.orca_base.specs.declared.place.Place.{Place}
use Rattle.orca_base.specs.Grids.{IsSize, IsInside, Size, above, below, by_place, index_of, is_inside, is_place, largest, left, off, place_in, right}
use Rattle.orca_base.specs.MarkSet.{MarkSet, all_marks, no_marks}
use Rattle.orca_base.proofs.PlaceFacts.{inside-is_inside, is_inside-inside, is_place-same}
use Rattle.orca_base.proofs.SheetFacts.{index-by_place, same-by_place, set-by_place}
use Rattle.orca_base.specs.declared.place.Spot.{Spot}
use Rattle.orca_base.specs.Glyphs.{bang, empty}
use Rattle.orca_op.specs.State.{State, has_bang, peek}
use Rattle.orca_op.specs.Deeds.{Deed, Mark, after, marks_after, span_deeds}
use Rattle.orca_op.specs.Slate.{Slate, slate_after, slate_after_all, list_after}
use Rattle.orca_op.proofs.LawFacts.{slate_after_all-append}
use Rattle.orca_board.specs.Board.{IsEmptyOutside, cell_in, cell_marks}
use Rattle.orca_board.proofs.LargestLemmas.{peek-none, peek-some}
use Rattle.orca_board.specs.Listing.{ListsChanges}
use Rattle.orca_board.proofs.SlateLemmas.{lists-mark}

-- the place is one of n in a row
abbrev pub is_among : ℕ → ℕ → ℕ → Place → Bool
is_among y x n at = (at.y == y) && (nat_le x at.x && nat_lt at.x (x + n))

-- the marks of a place, and those that are added to the places of a span
abbrev pub span_marks : List MarkSet → ℕ → ℕ → ℕ → MarkSet → Place → MarkSet
span_marks plane y x n marks at =
    if is_among y x n at then all_marks (cell_marks plane at) marks else cell_marks plane at

among_none : (y x : ℕ) (at : Place) → is_among y x 0 at ≡ false
among_none y x at = grind (arith, nat_tests)

among_here : (y x n : ℕ) → is_among y x (n + 1) (record { y = y; x = x + n }) ≡ true
among_here y x n = grind (arith, nat_tests)

not_yet : (y x n : ℕ) → is_among y x n (record { y = y; x = x + n }) ≡ false
not_yet y x n = grind (arith, nat_tests)

among_other : (y x n : ℕ) (at : Place) → is_place at (record { y = y; x = x + n }) ≡ false
    → is_among y x (n + 1) at ≡ is_among y x n at
among_other y x n at other = grind (arith, nat_tests)

-- ---- the slate after the marks of a span

-- one place more
span_more : (d : Size) (plane : List MarkSet) (y x n : ℕ) (marks : MarkSet) → IsSize d
    → (inside : Bool) → is_inside d (record { y = y; x = x + n }) ≡ inside
    → (if inside then set (by_place d (span_marks plane y x n marks))
    (index_of d (record { y = y; x = x + n }))
    (all_marks (slice_index_or (by_place d (span_marks plane y x n marks))
    (index_of d (record { y = y; x = x + n }))
    no_marks) marks) else by_place d (span_marks plane y x n marks))
    ≡ by_place d (span_marks plane y x (n + 1) marks)
span_more d plane y x n marks size true inside =
    let at : Place = record { y = y; x = x + n } in
    let there = inside-is_inside d at inside in
    rw (index-by_place d (span_marks plane y x n marks) at no_marks there)
    (set-by_place d (span_marks plane y x n marks) (span_marks plane y x (n + 1) marks) at _
    no_marks size there
    (rw (among_here y x n, not_yet y x n) refl)
    (λ q inside_q other. rw (among_other y x n q other) refl))
span_more d plane y x n marks size false outside =
    same-by_place d (span_marks plane y x n marks) (span_marks plane y x (n + 1) marks) no_marks
    size
    (λ q inside. rw (among_other y x n q
    (apart q inside (is_place q (record { y = y; x = x + n })) refl)) refl)
  where
    apart : (q : Place) → IsInside d q → (b : Bool) → is_place q (record { y = y; x = x + n }) ≡ b
        → b ≡ false
    apart q inside true same =
        absurd (both_ways _ outside (ap (is_inside d)
        (sym (is_place-same q (record { y = y; x = x + n }) same)) ∙ is_inside-inside d q inside))
    apart q inside false same = refl

marked_if : (s : State) (at : Place) (marks : MarkSet) (inside : Bool)
    → marks_after s (if inside then Some at else None) marks
    ≡ (if inside then set s.marks (index_of s.dims at)
    (all_marks (slice_index_or s.marks (index_of s.dims at) no_marks) marks) else s.marks)
marked_if s at marks true = refl
marked_if s at marks false = refl

-- the slate after them
pub marked_span : (d : Slate) (plane : List MarkSet) (at : Place) (y x n : ℕ) (marks : MarkSet)
    → IsSize d.scan.dims → d.scan.marks ≡ by_place d.scan.dims (cell_marks plane)
    → slate_after_all d (span_deeds at y x n marks)
    ≡ record d {
      scan = record d.scan
          { marks = by_place d.scan.dims (span_marks plane (at.y + y) (at.x + x) n marks) };
    }
unfolding after list_after
marked_span d plane at y x zero marks size is =
    let none = same-by_place d.scan.dims (cell_marks plane)
    (span_marks plane (at.y + y) (at.x + x) 0 marks) no_marks size
    (λ q inside. rw (among_none (at.y + y) (at.x + x) q) refl) in
    ap (λ (m : List MarkSet). record d { scan = record d.scan { marks = m } }) (is ∙ none)
marked_span d plane at y x (suc n) marks size is =
    let column : at.x + (n + x) ≡ at.x + x + n = omega arith in
    let next : n + 1 ≡ suc n = omega arith in
    let more = span_more d.scan.dims plane (at.y + y) (at.x + x) n marks size
    (is_inside d.scan.dims (record { y = at.y + y; x = at.x + x + n })) refl in
    let before = marked_span d plane at y x n marks size is in
    let last : Deed = Mark (off at (pos y) (pos (n + x))) marks in
    slate_after_all-append d (span_deeds at y x n marks) (last ∷ [])
    ∙ (ap (λ (e : Slate). slate_after e last) before
    ∙ rw (column, marked_if) (ap (λ (m : List MarkSet). record d
    { scan = record d.scan { marks = m } }) (rw next at more)))

-- its changes stay
pub lists-span : (d : Slate) (at : Place) (y x n : ℕ) (marks : MarkSet) (known : List Change)
    → ListsChanges d known → ListsChanges (slate_after_all d (span_deeds at y x n marks)) known
lists-span d at y x zero marks known lists = lists
lists-span d at y x (suc n) marks known lists =
    rw (slate_after_all-append d (span_deeds at y x n marks)
    (Mark (off at (pos y) (pos (n + x))) marks ∷ []))
    (lists-mark (slate_after_all d (span_deeds at y x n marks)) _ (off at (pos y) (pos (n + x)))
    marks known (lists-span d at y x n marks known lists) refl)

-- the numbers of a span in the largest grid, as far as the grid's edge
among_number : (w y x n count first : ℕ) (at : Place) → at.x < w → w ≤ MAX_COLUMNS → x < w
    → first ≡ y * MAX_COLUMNS + x → count ≡ min n (w - x)
    → (nat_le first (index_of largest at) && nat_lt (index_of largest at) (first + count))
    ≡ is_among y x n at
among_number w y x n count first at inside most wide number few = grind (arith, nat_tests)

-- the marks of a grid after those of a span
pub span_plane : (d : Size) (plane new : List MarkSet) (y x n count first : ℕ) (marks : MarkSet)
    → IsSize d → x < d.w → first ≡ y * MAX_COLUMNS + x → count ≡ min n (d.w - x)
    → ((i : ℕ) → get_or new i no_marks ≡
    (if nat_le first i && nat_lt i (first + count) then all_marks (get_or plane i no_marks)
    marks else get_or plane i no_marks))
    → by_place d (cell_marks new) ≡ by_place d (span_marks plane y x n marks)
span_plane d plane new y x n count first marks size wide number few each =
    same-by_place d (cell_marks new) (span_marks plane y x n marks) no_marks size
    (λ q inside.
    each (index_of largest q)
    ∙ ap (λ (b : Bool). if b then all_marks (cell_marks plane q) marks else cell_marks plane q)
    (among_number d.w y x n count first q inside.column size.few_columns wide number few))

-- a span that begins outside the grid
beyond_none : (h w y x n : ℕ) (at : Place) → at.y < h → at.x < w → (y < h → w ≤ x)
    → is_among y x n at ≡ false
beyond_none h w y x n at row column beyond = grind (arith, nat_tests)

pub span_beyond : (d : Size) (plane : List MarkSet) (y x n : ℕ) (marks : MarkSet) → IsSize d
    → (y < d.h → d.w ≤ x) → by_place d (cell_marks plane) ≡ by_place d (span_marks plane y x n marks)
span_beyond d plane y x n marks size beyond =
    same-by_place d (cell_marks plane) (span_marks plane y x n marks) no_marks size
    (λ q inside. rw (beyond_none d.h d.w y x n q inside.row inside.column beyond) refl)

-- the slate of a board after the marks of a span
pub spanned : (d : Slate) (plane new : List MarkSet) (at : Place) (y x n : ℕ) (marks : MarkSet)
    → IsSize d.scan.dims → d.scan.marks ≡ by_place d.scan.dims (cell_marks plane)
    → by_place d.scan.dims (cell_marks new) ≡ by_place d.scan.dims
    (span_marks plane (at.y + y) (at.x + x) n marks)
    → record d { scan = record d.scan { marks = by_place d.scan.dims (cell_marks new) } }
    ≡ slate_after_all d (span_deeds at y x n marks)
spanned d plane new at y x n marks size is same =
    ap (λ (m : List MarkSet). record d { scan = record d.scan { marks = m } }) same
    ∙ sym (marked_span d plane at y x n marks size is)

pub lists-spanned : (d : Slate) (plane new : List MarkSet) (at : Place) (y x n : ℕ) (marks : MarkSet)
    (known : List Change)
    → IsSize d.scan.dims → d.scan.marks ≡ by_place d.scan.dims (cell_marks plane)
    → by_place d.scan.dims (cell_marks new) ≡ by_place d.scan.dims
    (span_marks plane (at.y + y) (at.x + x) n marks) → ListsChanges d known
    → ListsChanges (record d {
      scan = record d.scan { marks = by_place d.scan.dims (cell_marks new) };
    }) known
lists-spanned d plane new at y x n marks known size is same lists =
    subst (λ (e : Slate). ListsChanges e known)
    (sym (spanned d plane new at y x n marks size is same))
    (lists-span d at y x n marks known lists)

-- ---- the glyphs beside a place

-- a cell of the largest grid is what its spot shows
pub peek_cell : (s : State) (cells : List ℕ) (spot : Spot) (y x i read : ℕ) → IsSize s.dims
    → s.cells ≡ by_place s.dims (cell_in cells) → IsEmptyOutside s.dims cells
    → length cells ≡ MAX_CELLS
    → spot.y ≡ pos y → spot.x ≡ pos x → y < MAX_ROWS → x < MAX_COLUMNS → i ≡ y * MAX_COLUMNS + x
    → read ≡ get_or cells i read → read ≡ peek s spot
peek_cell s cells spot y x i read size is outside whole row column high wide number shown =
    let at : Place = record { y = y; x = x } in
    let there : IsInside largest at = record { row = high; column = wide } in
    let place : Some at ≡ place_in largest spot =
    rw (row, column, is_inside-inside largest at there) refl in
    peek-some s cells spot at i read size is outside place there number
    (omega (arith, number, high, wide)) whole shown

-- a spot outside the largest grid shows none
pub peek_beyond : (s : State) (spot : Spot) (y x : ℕ) → IsSize s.dims → spot.y ≡ pos y → spot.x
    ≡ pos x → is_inside largest (record { y = y; x = x }) ≡ false → empty ≡ peek s spot
peek_beyond s spot y x size row column outside =
    let none : place_in largest spot ≡ None = rw (row, column, outside) refl in
    peek-none s spot size (sym none)

pub outside_below : (x : ℕ) → is_inside largest (record { y = MAX_ROWS; x = x }) ≡ false
outside_below x = refl

pub outside_right : (y : ℕ) → is_inside largest (record { y = y; x = MAX_COLUMNS }) ≡ false
outside_right y = and-false (nat_lt y MAX_ROWS)

-- above the first row, and at the left of the first column
pub peek_above : (s : State) (at : Place) → IsSize s.dims → at.y ≡ 0 → empty ≡ peek s (above at)
peek_above s at size first =
    let none : place_in largest (above at) ≡ None = rw first refl in
    peek-none s (above at) size (sym none)

pub peek_left : (s : State) (at : Place) → IsSize s.dims → at.x ≡ 0 → empty ≡ peek s (left at 1)
peek_left s at size first =
    let none : place_in largest (left at 1) ≡ None = rw first refl in
    peek-none s (left at 1) size (sym none)

-- one row or column less
pub one_less : (n : ℕ) → 0 < n → pos n +ℤ negsuc 0 ≡ pos (n - 1)
one_less n some =
    let next : n ≡ n - 1 + 1 = omega (arith, some) in
    ap (λ (k : ℕ). pos k +ℤ negsuc 0) next ∙ +ℤ-neg_ℤ_cancel (pos (n - 1)) (pos 1)

pub still : (n : ℕ) → pos n +ℤ pos 0 ≡ pos n
still n = ap pos (add-zero n)

-- ---- a glyph at the right

pub holds_it : (glyph byte : ℕ) → glyph ≡ byte → (glyph == byte) ≡ true
holds_it glyph byte same = grind (arith, nat_tests)

pub holds_other : (glyph byte : ℕ) → (glyph ≡ byte → ⊥) → (glyph == byte) ≡ false
holds_other glyph byte other = grind (arith, nat_tests)

-- a cell of the row
pub peek_right : (s : State) (cells : List ℕ) (at : Place) (k first i read : ℕ) → IsSize s.dims
    → s.cells ≡ by_place s.dims (cell_in cells) → IsEmptyOutside s.dims cells
    → length cells ≡ MAX_CELLS
    → IsInside s.dims at → at.x + k < MAX_COLUMNS → first ≡ at.y * MAX_COLUMNS + at.x → i ≡ first
    + k → read ≡ get_or cells i read → read ≡ peek s (right at k)
peek_right s cells at k first i read size is outside whole inside wide number step shown =
    peek_cell s cells (right at k) at.y (at.x + k) i read size is outside whole (still at.y) refl
    (omega (arith, inside.row, size.few_rows)) wide (omega (arith, number, step)) shown

-- a cell as a list shows it
cell_shown : (s : State) (cells : List ℕ) (spot : Spot) (y x i : ℕ) → IsSize s.dims
    → s.cells ≡ by_place s.dims (cell_in cells) → IsEmptyOutside s.dims cells
    → length cells ≡ MAX_CELLS
    → spot.y ≡ pos y → spot.x ≡ pos x → y < MAX_ROWS → x < MAX_COLUMNS → i ≡ y * MAX_COLUMNS + x
    → slice_index cells i ≡ peek s spot
cell_shown s cells spot y x i size is outside whole row column high wide number =
    peek_cell s cells spot y x i (slice_index cells i) size is outside whole row column high wide
    number (sym (get_or_default cells i (slice_index cells i) 0
    (omega (arith, whole, number, high, wide))))

-- a cell of the row
pub cell_right : (s : State) (cells : List ℕ) (at : Place) (k first : ℕ) → IsSize s.dims
    → s.cells ≡ by_place s.dims (cell_in cells) → IsEmptyOutside s.dims cells
    → length cells ≡ MAX_CELLS
    → IsInside s.dims at → at.x + k < MAX_COLUMNS → first ≡ at.y * MAX_COLUMNS + at.x
    → slice_index cells (first + k) ≡ peek s (right at k)
cell_right s cells at k first size is outside whole inside wide number =
    cell_shown s cells (right at k) at.y (at.x + k) (first + k) size is outside whole (still at.y)
    refl
    (omega (arith, inside.row, size.few_rows)) wide (omega (arith, number))

-- ---- a bang beside a place

-- a bang at the left, and at the right, where the row goes on
bang_left : (s : State) (cells : List ℕ) (at : Place) (i : ℕ) → IsSize s.dims
    → s.cells ≡ by_place s.dims (cell_in cells) → IsEmptyOutside s.dims cells
    → length cells ≡ MAX_CELLS
    → at.y < MAX_ROWS → at.x < MAX_COLUMNS → i ≡ at.y * MAX_COLUMNS + at.x
    → ((slice_index cells (i - 1) == bang) && nat_lt 0 at.x) ≡ (peek s (left at 1) == bang)
bang_left s cells at i size is outside whole high wide number = elim (cases_lt 0 at.x) [
  | inl some ↦
      let shown = cell_shown s cells (left at 1) at.y (at.x - 1) (i - 1) size is outside whole
      (still at.y) (one_less at.x some) high (omega (arith, wide)) (omega (arith, number, some)) in
      rw (lt-ltb 0 at.x some, shown) (and-true (peek s (left at 1) == bang))
  | inr none ↦
      rw (le-ltb 0 at.x none, ← peek_left s at size (omega (arith, none)))
      (and-false (slice_index cells (i - 1) == bang))
]

bang_right : (s : State) (cells : List ℕ) (at : Place) (i : ℕ) → IsSize s.dims
    → s.cells ≡ by_place s.dims (cell_in cells) → IsEmptyOutside s.dims cells
    → length cells ≡ MAX_CELLS
    → at.y < MAX_ROWS → at.x < MAX_COLUMNS → i ≡ at.y * MAX_COLUMNS + at.x
    → ((slice_index cells (i + 1) == bang) && nat_lt at.x (MAX_COLUMNS - 1))
    ≡ (peek s (right at 1) == bang)
bang_right s cells at i size is outside whole high wide number =
    elim (cases_lt at.x (MAX_COLUMNS - 1)) [
      | inl some ↦
          let shown = cell_shown s cells (right at 1) at.y (at.x + 1) (i + 1) size is outside whole
          (still at.y) refl high (omega (arith, some)) (omega (arith, number)) in
          rw (lt-ltb at.x (MAX_COLUMNS - 1) some, shown) (and-true (peek s (right at 1) == bang))
      | inr none ↦
          let last : at.x + 1 ≡ MAX_COLUMNS = omega (arith, none, wide) in
          let beyond = peek_beyond s (right at 1) at.y MAX_COLUMNS size (still at.y)
          (ap (λ (n : ℕ). pos n) last) (outside_right at.y) in
          rw (le-ltb at.x (MAX_COLUMNS - 1) none, ← beyond)
          (and-false (slice_index cells (i + 1) == bang))
    ]

-- the four cells beside one in neither the first nor the last row
pub bang_inner : (s : State) (cells : List ℕ) (at : Place) (i : ℕ) → IsSize s.dims
    → s.cells ≡ by_place s.dims (cell_in cells) → IsEmptyOutside s.dims cells
    → length cells ≡ MAX_CELLS
    → 0 < at.y → at.y + 1 < MAX_ROWS → at.x < MAX_COLUMNS → i ≡ at.y * MAX_COLUMNS + at.x
    → ((slice_index cells (i - MAX_COLUMNS) == bang)
    || ((slice_index cells (i - 1) == bang) && nat_lt 0 at.x)
    || ((slice_index cells (i + 1) == bang) && nat_lt at.x (MAX_COLUMNS - 1))
    || (slice_index cells (i + MAX_COLUMNS) == bang)) ≡ has_bang s at
unfolding has_bang
bang_inner s cells at i size is outside whole low high wide number =
    let up = cell_shown s cells (above at) (at.y - 1) at.x (i - MAX_COLUMNS) size is outside whole
    (one_less at.y low) (still at.x) (omega (arith, high)) wide (omega (arith, number, low)) in
    let back = bang_left s cells at i size is outside whole (omega (arith, high)) wide number in
    let on = bang_right s cells at i size is outside whole (omega (arith, high)) wide number in
    let down = cell_shown s cells (below at) (at.y + 1) at.x (i + MAX_COLUMNS) size is outside whole
    refl (still at.x) high wide (omega (arith, number)) in
    rw (up, back, on, down) refl

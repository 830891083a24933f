-- Lists for the largest grid, seen as those of a grid: what a place holds, one place changed, and
-- the marked places.
use Rattle.std.proofs.Common.{◌≡◌, ℕ, zero, suc, ◌+◌, ◌*◌, ◌/◌, ◌-◌, ◌%◌, ◌<◌, ◌≤◌, ◌==◌, Bool, true, false, ◌&&◌, List, [], length, get_or, replicate, refl, arith, ap, sym, ◌∙◌, subst, inl, inr}
use Rattle.std.proofs.Math.ListN.{set}
use Rattle.std.specs.Prelude.{Some, is_some, nat_lt, slice_index, if◌then◌else◌}
use Rattle.std.proofs.lemmas.Bool.{both_ways, cases_lt, le-ltb, lt-ltb}
use Rattle.std.proofs.lemmas.Bool.Decides.{eqb_tells}
use Rattle.std.proofs.lemmas.Nat.Bits.{bit_at-zero}
use Rattle.std.proofs.lemmas.List.{get_or_default, get_or_past, get_or-set_other, get_or-set_same}
use Rattle.std.proofs.Math.Bool.{and-false}
use Rattle.orca_base.specs.declared.change.Change.{Change}
use Rattle.orca_base.specs.declared.limits.TheConstants.{MAX_EVENTS, MAX_CELLS, MAX_COLUMNS, WORD_COLUMNS}
use Rattle.orca_base.specs.declared.place.Place.{Place}
use Rattle.orca_base.specs.declared.place.Spot.{Spot}
use Rattle.orca_base.specs.Glyphs.{empty, is_operator}
use Rattle.orca_base.specs.Grids.{Sheet, IsSheet, Size, IsSize, IsInside, by_place, cells_of, index_of, is_inside, is_place, largest, place_in}
use Rattle.orca_base.specs.MarkSet.{MarkSet, all_marks, no_marks}
use Rattle.orca_base.proofs.PlaceFacts.{index_of-below, index-apart, is_inside-inside, is_place-same}
use Rattle.orca_base.proofs.SheetFacts.{index-by_place, list-by_place, set-by_place}
use Rattle.orca_marks.specs.Planes.{blank}
use Rattle.orca_marks.proofs.PlaneLemmas.{index-blank}
use Rattle.orca_op.specs.Deeds.{Mark, after}
use Rattle.orca_op.specs.Slate.{Slate, slate_after, slate_of_sheet, list_after}
use Rattle.orca_op.specs.Live.{has_bit, is_live, IsSummary}
use Rattle.orca_op.specs.State.{State, blank_marks, state_glyph}
use Rattle.orca_op.proofs.FirstFacts.{first_where-same}
use Rattle.orca_board.specs.Board.{AreLive, IsEmptyOutside, KeepsBoard, cell_in, cell_marks}
use Rattle.orca_board.proofs.SlateLemmas.{lists-of_sheet}

-- a place of a grid is one of the largest
pub inside-largest : (d : Size) (at : Place) → IsSize d → IsInside d at → IsInside largest at
inside-largest d at size inside =
    record {
      row = omega (arith, inside.row, size.few_rows);
      column = omega
          (arith, inside.column, size.few_columns);
    }

-- a cell as it is read
pub read-cell : (d most : Size) (cells : List ℕ) (at : Place) (i read : ℕ) → IsInside d at
    → most ≡ largest → i ≡ index_of most at → i < MAX_CELLS → length cells ≡ MAX_CELLS
    → read ≡ get_or cells i read → read ≡ slice_index (by_place d (cell_in cells)) (index_of d at)
read-cell d most cells at i read inside is_most number below whole is =
    is ∙ (get_or_default cells i read 0 (omega (arith, below, whole))
    ∙ (ap (λ (n : ℕ). get_or cells n 0) (number ∙ ap (λ (m : Size). index_of m at) is_most)
    ∙ sym (index-by_place d (cell_in cells) at 0 inside)))

-- one place changed
pub set-plane : {A : Type 0} (d : Size) (xs : List A) (at : Place) (y x : A) → IsSize d
    → IsInside d at → length xs ≡ MAX_CELLS
    → by_place d (λ q. get_or (set xs (index_of largest at) y) (index_of largest q) x)
    ≡ set (by_place d (λ q. get_or xs (index_of largest q) x)) (index_of d at) y
set-plane {A} d xs at y x size inside whole =
    let here : IsInside largest at = inside-largest d at size inside in
    sym (set-by_place d (λ q. get_or xs (index_of largest q) x)
    (λ q. get_or (set xs (index_of largest at) y) (index_of largest q) x) at y x size inside
    (get_or-set_same xs (index_of largest at) y x
    (omega (arith, index_of-below largest at here, whole)))
    (λ q inside_q apart. get_or-set_other xs (index_of largest at) (index_of largest q) y x
    (index-apart largest q at (inside-largest d q size inside_q) here apart)))

-- a place outside the grid keeps what it holds
pub set-outside : {A : Type 0} (d : Size) (xs : List A) (at q : Place) (y x : A) → IsSize d
    → IsInside d at → IsInside largest q → is_inside d q ≡ false
    → get_or (set xs (index_of largest at) y) (index_of largest q) x
    ≡ get_or xs (index_of largest q) x
set-outside d xs at q y x size inside inside_q outside =
    get_or-set_other xs (index_of largest at) (index_of largest q) y x
    (index-apart largest q at inside_q (inside-largest d at size inside)
    (other (is_place q at) refl))
  where
    other : (b : Bool) → is_place q at ≡ b → b ≡ false
    other true is =
        absurd (both_ways _ outside (subst (λ (p : Place). is_inside d p ≡ true)
        (sym (is_place-same q at is)) (is_inside-inside d at inside)))
    other false is = refl

-- the bits after one cell was written
pub live-set : (bits new cells : List ℕ) (i glyph : ℕ) → i < length cells → length cells ≡ MAX_CELLS
    → ((n : ℕ) → n < MAX_CELLS → has_bit bits n ≡ is_operator (slice_index cells n))
    → ((n : ℕ) → has_bit new n ≡ (if n == i then is_operator glyph else has_bit bits n))
    → (n : ℕ) → n < MAX_CELLS → has_bit new n ≡ is_operator (slice_index (set cells i glyph) n)
live-set bits new cells i glyph below whole live written n few =
    written n ∙ (elim (eqb_tells n i) [
      | inl same ↦ rw (same.0, same.1, get_or-set_same cells i glyph 0 below) refl
      | inr other ↦ rw (other.0, get_or-set_other cells i n glyph 0 other.1) (live n few)
    ])

-- the slate after marks in the grid
pub marked-plane : (d : Slate) (plane : List MarkSet) (spot : Spot) (at : Place) (marks : MarkSet)
    → IsSize d.scan.dims → IsInside d.scan.dims at → place_in d.scan.dims spot ≡ Some at
    → d.scan.marks ≡ by_place d.scan.dims (cell_marks plane) → length plane ≡ MAX_CELLS
    → record d {
      scan = record d.scan {
        marks = by_place d.scan.dims
            (cell_marks (set plane (index_of largest at) (all_marks (cell_marks plane at) marks)));
      };
    } ≡ slate_after d (Mark spot marks)
unfolding after list_after
marked-plane d plane spot at marks size inside place is whole =
    rw (
      place,
      is,
      index-by_place d.scan.dims (cell_marks plane) at no_marks inside,
      set-plane
          d.scan.dims plane at (all_marks (cell_marks plane at) marks) no_marks size inside whole,
    ) refl

-- no marks
pub blank-by_place : (d : Size) → IsSize d → by_place d (cell_marks blank) ≡ blank_marks d
blank-by_place d size =
    sym (list-by_place d (blank_marks d) (cell_marks blank) no_marks size (long (cells_of d))
    (λ at inside. none (cells_of d) (index_of d at) ∙ sym (index-blank (index_of largest at))))
  where
    long : (n : ℕ) → length (replicate n no_marks) ≡ n
    long zero = refl
    long (suc n) = ap suc (long n)

    none : (n i : ℕ) → get_or (replicate n no_marks) i no_marks ≡ no_marks
    none zero i = refl
    none (suc n) zero = refl
    none (suc n) (suc i) = none n i

-- no bit stands beyond the words
no_word : (words : List ℕ) (x : ℕ) → WORD_COLUMNS * length words ≤ x → has_bit words x ≡ false
no_word words x beyond =
    let none : slice_index words (x / WORD_COLUMNS) ≡ 0 =
    get_or_past words (x / WORD_COLUMNS) 0 (omega arith) in
    rw (none, bit_at-zero (x % WORD_COLUMNS)) refl

-- the bit of a column's place shows whether the column is live
pub live-cell : (s : State) (cells bits : List ℕ) (row x : ℕ) → IsSize s.dims → row < s.dims.h
    → s.cells ≡ by_place s.dims (cell_in cells) → IsEmptyOutside s.dims cells
    → AreLive cells bits → x < MAX_COLUMNS → has_bit bits (row * MAX_COLUMNS + x) ≡ is_live s row x
unfolding is_operator
live-cell s cells bits row x size below is outside live few =
    live (row * MAX_COLUMNS + x) (omega (arith, size.few_rows, few))
    ∙ elim (cases_lt x s.dims.w) [
      | inl inside ↦
          let there : IsInside s.dims (record { y = row; x = x }) =
          record { row = below; column = inside } in
          let same : state_glyph s (record { y = row; x = x })
          ≡ cell_in cells (record { y = row; x = x }) =
          ap (λ (xs : List ℕ). slice_index xs (row * s.dims.w + x)) is
          ∙ index-by_place s.dims (cell_in cells) (record { y = row; x = x }) 0 there in
          let column : nat_lt x s.dims.w ≡ true = lt-ltb x s.dims.w inside in
          rw (column, same) refl
      | inr past ↦
          let column : nat_lt x s.dims.w ≡ false = le-ltb x s.dims.w past in
          let beyond : (nat_lt row s.dims.h && nat_lt x s.dims.w) ≡ false =
          rw column (and-false (nat_lt row s.dims.h)) in
          rw column (ap is_operator (outside (record { y = row; x = x })
          (record { row = omega (arith, below, size.few_rows); column = few }) beyond))
    ]

-- the words of a row show its live columns
pub live-row : (s : State) (cells bits words : List ℕ) (row x : ℕ) → IsSize s.dims → row < s.dims.h
    → s.cells ≡ by_place s.dims (cell_in cells) → IsEmptyOutside s.dims cells
    → AreLive cells bits
    → length words ≡ (s.dims.w + (WORD_COLUMNS - 1)) / WORD_COLUMNS
    → (x < WORD_COLUMNS * length words → has_bit words x ≡ has_bit bits (row * MAX_COLUMNS + x))
    → has_bit words x ≡ is_live s row x
live-row s cells bits words row x size below is outside live long read =
    elim (cases_lt x (WORD_COLUMNS * length words)) [
      | inl short ↦
          read short ∙ live-cell s cells bits row x size below is outside live
          (omega (arith, long, size.few_columns))
      | inr beyond ↦
          let column : nat_lt x s.dims.w ≡ false = le-ltb x s.dims.w (omega (arith, long)) in
          no_word words x beyond ∙ rw column refl
    ]

-- the summary of a row's bits, in the largest grid, is that of its live columns
pub summary-row : (s : State) (cells bits : List ℕ) (row summary : ℕ) → IsSize s.dims
    → row < s.dims.h → s.cells ≡ by_place s.dims (cell_in cells) → IsEmptyOutside s.dims cells
    → AreLive cells bits
    → IsSummary (λ x. nat_lt x MAX_COLUMNS && has_bit bits (row * MAX_COLUMNS + x)) summary
    → IsSummary (is_live s row) summary
summary-row s cells bits row summary size below is outside live shown k =
    shown k ∙ ap is_some (first_where-same
    (λ x. nat_lt x MAX_COLUMNS && has_bit bits (row * MAX_COLUMNS + x)) (is_live s row)
    (k * WORD_COLUMNS) WORD_COLUMNS (λ x. elim (cases_lt x MAX_COLUMNS) [
      | inl few ↦
          rw (lt-ltb x MAX_COLUMNS few) (live-cell s cells bits row x size below is outside live few)
      | inr past ↦
          let column : nat_lt x s.dims.w ≡ false =
          le-ltb x s.dims.w (omega (arith, past, size.few_columns)) in
          rw (le-ltb x MAX_COLUMNS past, column) refl
    ]))

pub most_size : IsSize largest
most_size = record {
  rows = omega arith;
  few_rows = omega arith;
  columns = omega arith;
  few_columns
      = omega arith;
}

-- ---- cells that are written one after the other

-- no bit is set for them
pub off-cells : (cells bits : List ℕ) → AreLive cells bits
    → ((n : ℕ) → n < MAX_CELLS → slice_index cells n ≡ empty) → (n : ℕ) → n < MAX_CELLS
    → has_bit bits n ≡ false
unfolding is_operator
off-cells cells bits live none n few = live n few ∙ ap is_operator (none n few)

-- cells that are all empty, and bits that are all off
pub live-none : (cells bits : List ℕ) → ((n : ℕ) → n < MAX_CELLS → slice_index cells n ≡ empty)
    → ((n : ℕ) → n < MAX_CELLS → has_bit bits n ≡ false) → AreLive cells bits
unfolding is_operator
live-none cells bits none off n few = off n few ∙ ap is_operator (sym (none n few))

pub outside-none : (d : Size) (cells : List ℕ)
    → ((n : ℕ) → n < MAX_CELLS → slice_index cells n ≡ empty) → IsEmptyOutside d cells
outside-none d cells none at inside past =
    none (index_of largest at) (index_of-below largest at inside)

-- ---- a grid at the start of a frame

pub keeps-of_sheet : (d : Slate) (g : Sheet) (known : List Change) (cells : List ℕ)
    (marks : List MarkSet) (bits : List ℕ) (room : ℕ)
    → IsSheet g → d ≡ slate_of_sheet g → known ≡ []
    → length cells ≡ MAX_CELLS → length marks ≡ MAX_CELLS → IsEmptyOutside g.dims cells
    → AreLive cells bits → MAX_EVENTS ≤ room → KeepsBoard d known cells marks bits room
keeps-of_sheet d g known cells marks bits room sheet is none whole marks_whole outside live roomy =
    rw (is, none) (record {
      lists = lists-of_sheet (slate_of_sheet g) g [] sheet refl refl;
      whole = whole;
      marks_whole = marks_whole;
      outside = outside;
      live = live;
      events_roomy = roomy;
    })

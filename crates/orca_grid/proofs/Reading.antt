-- A text as it is read: the rows that have ended, and the cell bytes of the row that has begun.
use Rattle.std.proofs.Common.{min, ◌≡◌, ℕ, ◌+◌, ◌≤◌, ◌<◌, Bool, true, false, List, [], ◌∷◌, ◌++◌, length, drop, get_or, max, zero, suc, inl, inr, refl, sym, ap, ◌∙◌, subst, arith, append_assoc, add-one, add-zero, ◌-◌}
use Rattle.std.specs.List.{AllPass, filter}
use Rattle.std.specs.Str.Lines.{lines}
use Rattle.std.proofs.lemmas.Bool.{cases_lt, eqb-true}
use Rattle.std.proofs.lemmas.Bool.Decides.{nat_tests}
use Rattle.std.proofs.lemmas.List.{append-nil, drop_more, drop_all, get_or_past, length_push}
use Rattle.std.proofs.lemmas.List.Elements.{filter-append, filter_passes}
use Rattle.std.proofs.lemmas.List.Recursion.{max_push}
use Rattle.std.proofs.lemmas.List.Sums.{length-filter, count_by_more_yes, count_by_more_no}
use Rattle.orca_base.specs.Grids.{Size, IsInside}
use Rattle.orca_base.specs.declared.place.Place.{Place}
use Rattle.orca_base.specs.declared.limits.TheConstants.{MAX_ROWS, MAX_COLUMNS}
use Rattle.orca_grid.specs.GridText.{row_at, row_before, column_at, is_cell, is_line_feed, is_bad, widest, size_of_rows}
use Rattle.orca_grid.proofs.Lines.{cell_is_no_end, last_row, lines-last, lines-ended, lines-returned}
use Rattle.orca_grid.proofs.Places.{DoesNotOffend, row_before-more}

pub record Reading : Type 0 where
  pub ended : List (List ℕ)
  pub begun : List ℕ

-- one byte more
abbrev pub reading_by : Bool → Bool → ℕ → Reading → Reading
reading_by true cell byte r = record { ended = r.ended ++ r.begun ∷ []; begun = [] }
reading_by false true byte r = record { ended = r.ended; begun = r.begun ++ byte ∷ [] }
reading_by false false byte r = r

-- the first i bytes
unfoldable pub reading : List ℕ → ℕ → Reading
reading text zero = record { ended = []; begun = [] }
reading text (suc i) =
    let byte = get_or text i 0 in
    reading_by (is_line_feed byte) (is_cell byte) byte (reading text i)

pub reading-more : (line cell : Bool) (text : List ℕ) (i : ℕ)
    → is_line_feed (get_or text i 0) ≡ line → is_cell (get_or text i 0) ≡ cell
    → reading text (i + 1) ≡ reading_by line cell (get_or text i 0) (reading text i)
unfolding reading
reading-more line cell text i end is = rw (add-one, end, is) refl

-- ---- what is read, and the rest, are the lines of the text

pub record IsReading (text : List ℕ) (i : ℕ) (r : Reading) : Type 0 where
  pub row : length r.ended + 1 ≡ row_at text i
  pub begun : r.begun ≡ filter is_cell (row_before text i)
  pub rows : r.ended ++ lines (r.begun ++ drop i text) ≡ lines text

cells_read : (text : List ℕ) (i : ℕ) (r : Reading) → IsReading text i r → AllPass is_cell r.begun
cells_read text i r read =
    subst (AllPass is_cell) (sym read.begun) (filter_passes is_cell (row_before text i))

pub column_read : (text : List ℕ) (i : ℕ) (r : Reading) → IsReading text i r
    → length r.begun ≡ column_at text i
unfolding column_at
column_read text i r read = ap length read.begun ∙ length-filter is_cell (row_before text i)

pub reads-start : (text : List ℕ) → IsReading text 0 (reading text 0)
unfolding row_at reading
reads-start text = record { row = refl; begun = refl; rows = refl }

-- a good byte that is no cell byte and no line feed is a carriage return before a line feed
return-at : (text : List ℕ) (i : ℕ) → is_line_feed (get_or text i 0) ≡ false
    → is_cell (get_or text i 0) ≡ false → is_bad text i ≡ false
    → (get_or text i 0 ≡ 13) × (get_or text (i + 1) 0 ≡ 10)
return-at text i end cell good = (grind (arith, nat_tests), grind (arith, nat_tests))

-- a byte and the rest
rest-at : (text : List ℕ) (i byte : ℕ) → get_or text i 0 ≡ byte → 0 < byte
    → drop i text ≡ byte ∷ drop (i + 1) text
rest-at text i byte is some =
    elim (cases_lt i (length text)) [
      | inl below ↦ drop_more text i 0 below ∙ ap (λ b. b ∷ drop (i + 1) text) is
      | inr past ↦ absurd (omega (arith, is, get_or_past text i 0 past))
    ]

reads_by : (line cell : Bool) (text : List ℕ) (i : ℕ) (r : Reading) → i < length text
    → is_bad text i ≡ false → is_line_feed (get_or text i 0) ≡ line
    → is_cell (get_or text i 0) ≡ cell → IsReading text i r
    → IsReading text (i + 1) (reading_by line cell (get_or text i 0) r)
unfolding row_at
reads_by true cell text i r h good end is read =
    let rest = rest-at text i 10 (eqb-true _ 10 end) (omega arith) in
    let cells = cells_read text i r read in
    let count = count_by_more_yes is_line_feed text i 0 h end in
    record {
      row = omega (arith, length_push r.ended r.begun, read.row, count);
      begun = rw (row_before-more text i h, end) refl;
      rows = rw (append_assoc, ← lines-ended r.begun _ cells, ← rest) read.rows;
    }
reads_by false true text i r h good end is read =
    let count = count_by_more_no is_line_feed text i 0 h end in
    record {
      row = omega (arith, read.row, count);
      begun = rw (row_before-more text i h, end, filter-append, is, read.begun) refl;
      rows = rw (append_assoc, ← drop_more text i 0 h) read.rows;
    }
reads_by false false text i r h good end is read =
    let returned = return-at text i end is good in
    let next = rest-at text (i + 1) 10 returned.1 (omega arith) in
    let rest = rest-at text i 13 returned.0 (omega arith) in
    let cells = cells_read text i r read in
    let count = count_by_more_no is_line_feed text i 0 h end in
    record {
      row = omega (arith, read.row, count);
      begun = rw (row_before-more text i h, end, filter-append, is, append-nil) read.begun;
      rows =
          let returned = lines-returned r.begun (drop (i + 1 + 1) text) cells in
          rw (next, lines-ended r.begun _ cells) (rw (rest, next, returned) at read.rows);
    }

-- no byte is bad
abbrev pub IsGood : List ℕ → Type 0
IsGood text = (k : ℕ) → k < length text → is_bad text k ≡ false

pub reads-more : (text : List ℕ) (i : ℕ) → i < length text → is_bad text i ≡ false
    → IsReading text i (reading text i) → IsReading text (i + 1) (reading text (i + 1))
reads-more text i h good read =
    rw (reading-more _ _ text i refl refl) (reads_by _ _ text i _ h good refl refl read)

pub reads : (text : List ℕ) (i : ℕ) → IsGood text → i ≤ length text
    → IsReading text i (reading text i)
reads text zero good h = reads-start text
reads text (suc i) good h =
    let below : i < length text = omega arith in
    rw (← add-one i) (reads-more text i below (good i below) (reads text i good (omega arith)))

-- the place of the next cell byte
abbrev pub place_of_next : Reading → Place
place_of_next r = record { y = length r.ended; x = length r.begun }

-- all rows so far
abbrev pub rows_so_far : Reading → List (List ℕ)
rows_so_far r = r.ended ++ last_row r.begun

-- at the end they are the lines
pub lines-read : (text : List ℕ) (r : Reading) → IsReading text (length text) r
    → lines text ≡ rows_so_far r
lines-read text r read =
    let none : drop (length text) text ≡ [] = drop_all (length text) text (omega arith) in
    let cells = cells_read text (length text) r read in
    rw (← lines-last r.begun cells, ← append-nil r.begun, ← none) (sym read.rows)

-- ---- how many rows there are, and how long they are

pub widest-push : (rows : List (List ℕ)) (row : List ℕ)
    → widest (rows ++ row ∷ []) ≡ max (widest rows) (length row)
unfolding widest
widest-push = max_push widest length refl (λ row rows. refl)

-- the size of all rows so far
abbrev pub size_so_far : Reading → Size
size_so_far r =
    let high = length r.ended + min (length r.begun) 1 in
    record { h = high; w = max (widest r.ended) (length r.begun) }

size-all : (ended : List (List ℕ)) (begun : List ℕ)
    → size_of_rows (ended ++ last_row begun) ≡ size_so_far (record { ended = ended; begun = begun })
size-all ended [] =
    let height : length ended + 0 ≡ length ended = omega arith in
    let width : max (widest ended) 0 ≡ widest ended = omega arith in
    rw (append-nil ended, height, width) refl
size-all ended (c ∷ begun) =
    let one : min (suc (length begun)) 1 ≡ 1 = omega arith in
    rw (length_push ended (c ∷ begun), widest-push ended (c ∷ begun), one) refl

-- at the end it is that of the lines
pub size-read : (text : List ℕ) (r : Reading) → IsReading text (length text) r
    → size_of_rows (lines text) ≡ size_so_far r
size-read text r read = ap size_of_rows (lines-read text r read) ∙ size-all r.ended r.begun

-- the rows so far are no more and no longer than those of a grid of this size
pub record IsFit (d : Size) (r : Reading) : Type 0 where
  pub high : (size_so_far r).h ≤ d.h
  pub wide : (size_so_far r).w ≤ d.w

-- the largest grid
abbrev pub largest : Size
largest = record { h = MAX_ROWS; w = MAX_COLUMNS }

-- a byte that doesn't offend leaves the rows so
fits_by : (line cell : Bool) (text : List ℕ) (i : ℕ) (r : Reading) → IsReading text i r
    → DoesNotOffend text i → is_cell (get_or text i 0) ≡ cell → IsFit largest r
    → IsFit largest (reading_by line cell (get_or text i 0) r)
fits_by true cell text i r read free is fit =
    let more = length_push r.ended r.begun in
    let longest = widest-push r.ended r.begun in
    record { high = omega (arith, read.row, free.row); wide = omega arith }
fits_by false true text i r read free is fit =
    let column = column_read text i r read in
    let room : length r.begun ≡ MAX_COLUMNS → ⊥ = λ full. free.column is (sym column ∙ full) in
    let more = length_push r.begun (get_or text i 0) in
    record { high = omega (arith, read.row, free.row); wide = omega arith }
fits_by false false text i r read free is fit = fit

pub fits-more : (text : List ℕ) (i : ℕ) → IsReading text i (reading text i) → DoesNotOffend text i
    → IsFit largest (reading text i) → IsFit largest (reading text (i + 1))
fits-more text i read free fit =
    rw (reading-more _ _ text i refl refl) (fits_by _ _ text i (reading text i) read free refl fit)

-- what is read later shows what was read before
fits-back : (line cell : Bool) (byte : ℕ) (d : Size) (r : Reading)
    → IsFit d (reading_by line cell byte r) → IsFit d r
fits-back true cell byte d r fit =
    let more = length_push r.ended r.begun in
    let longest = widest-push r.ended r.begun in
    record { high = omega arith; wide = omega arith }
fits-back false true byte d r fit =
    let more = length_push r.begun byte in
    record { high = omega arith; wide = omega arith }
fits-back false false byte d r fit = fit

fits-before : (text : List ℕ) (d : Size) (i n : ℕ) → IsFit d (reading text (i + n))
    → IsFit d (reading text i)
fits-before text d i zero fit = rw add-zero at fit
fits-before text d i (suc n) fit =
    let next : i + suc n ≡ i + n + 1 = omega arith in
    let last = rw (next, reading-more _ _ text (i + n) refl refl) at fit in
    fits-before text d i n (fits-back _ _ _ d _ last)

pub fits : (text : List ℕ) (i : ℕ) → IsGood text → i ≤ length text
    → IsFit (size_of_rows (lines text)) (reading text i)
fits text i good h =
    let n = length text in
    let rest : i + (n - i) ≡ n = omega arith in
    let size = size-read text (reading text n) (reads text n good (omega arith)) in
    let fit : IsFit (size_of_rows (lines text)) (reading text (i + (n - i))) =
    rw (rest, size) (record { high = omega arith; wide = omega arith }) in
    fits-before text _ i (n - i) fit

-- the place of a cell byte lies in the grid of the lines
pub fits-cell : (text : List ℕ) (i : ℕ) → IsGood text → i < length text
    → is_cell (get_or text i 0) ≡ true
    → IsInside (size_of_rows (lines text)) (place_of_next (reading text i))
fits-cell text i good h cell =
    let byte = get_or text i 0 in
    let more = length_push (reading text i).begun byte in
    let next = reading-more false true text i (cell_is_no_end byte cell) cell in
    let fit = rw next at (fits text (i + 1) good (omega (arith, h))) in
    record { row = omega (arith, fit.high); column = omega (arith, fit.wide) }

-- What a text is read as is a grid: of a size that a grid may have, with a glyph for each place.
use Rattle.std.proofs.Common.{◌≡◌, ℕ, ◌<◌, ◌≤◌, Bool, true, false, List, [], ◌∷◌, ◌++◌, length, map, get_or, zero, suc, refl, subst, arith, add-one, append-nil, below_more}
use Rattle.std.specs.Prelude.{◌==◌, ◌||◌, if◌then◌else◌, Option, Some, None, Ok, Err, slice_index_or}
use Rattle.std.specs.List.{AllByRecursion}
use Rattle.std.specs.Option.{option_or}
use Rattle.std.specs.Str.Lines.{lines}
use Rattle.std.proofs.lemmas.Bool.Decides.{nat_tests}
use Rattle.orca_base.specs.Glyphs.{IsGlyph, empty}
use Rattle.orca_base.specs.Grids.{IsSheet, Sheet}
use Rattle.orca_base.specs.declared.place.Place.{Place}
use Rattle.orca_base.proofs.SheetFacts.{IsSheet-sheet_by}
use Rattle.orca_grid.specs.GridText.{first_offence, glyph_of, glyph_of_rows, grid_of_rows, grid_text, is_cell, offence, sheet_of_rows, size_of_rows, unless_refused, widest}
use Rattle.orca_grid.specs.declared.refusal.GridRefusal.{GridRefusal}
use Rattle.orca_grid.specs.declared.refusal.GridRefusal.TheVariants.{NoCells}
use Rattle.orca_grid.proofs.Lines.{last_row}
use Rattle.orca_grid.proofs.Places.{NoneOffends, none-offends}
use Rattle.orca_grid.proofs.Reading.{IsFit, IsGood, Reading, fits-more, largest, lines-read, reading, reading_by, reads, size-read}

-- ---- no byte offends

or_none : {X : Type 0} (a b : Option X) → option_or a b ≡ None → (a ≡ None) × (b ≡ None)
or_none None b is = (refl, is)
or_none (Some x) b is = absurd cc

none_offends : (text : List ℕ) (n : ℕ) → first_offence text n ≡ None → NoneOffends text n
unfolding first_offence
none_offends text zero is = λ k h. absurd (omega (arith, h))
none_offends text (suc n) is =
    let both = or_none (first_offence text n) (offence text n) is in
    rw (← add-one n) (below_more _ _ (none_offends text n both.0) both.1)

-- ---- its cells are glyphs

-- each byte is that of a cell
abbrev Cells : List ℕ → Type 0
Cells bytes = AllByRecursion (λ byte. is_cell byte ≡ true) bytes

all_push : {X : Type 0} (P : X → Type 0) (xs : List X) (x : X) → AllByRecursion P xs → P x
    → AllByRecursion P (xs ++ x ∷ [])
all_push P [] x all is = (is, tt)
all_push P (y ∷ ys) x all is = (all.0, all_push P ys x all.1 is)

record AreCells (r : Reading) : Type 0 where
  pub ended : AllByRecursion Cells r.ended
  pub begun : Cells r.begun

cells_by : (line cell : Bool) (byte : ℕ) (r : Reading) → is_cell byte ≡ cell → AreCells r
    → AreCells (reading_by line cell byte r)
cells_by true cell byte r is all =
    record { ended = all_push Cells r.ended r.begun all.ended all.begun; begun = tt }
cells_by false true byte r is all = record {
  ended = all.ended;
  begun = all_push (λ byte. is_cell byte ≡ true) r.begun byte all.begun is;
}
cells_by false false byte r is all = all

cells_read : (text : List ℕ) (i : ℕ) → AreCells (reading text i)
unfolding reading
cells_read text zero = record { ended = tt; begun = tt }
cells_read text (suc i) =
    cells_by _ _ (get_or text i 0) (reading text i) refl (cells_read text i)

cells_rows : (ended : List (List ℕ)) (begun : List ℕ) → AllByRecursion Cells ended → Cells begun
    → AllByRecursion Cells (ended ++ last_row begun)
cells_rows ended [] all last = rw (append-nil ended) all
cells_rows ended (c ∷ begun) all last = all_push Cells ended (c ∷ begun) all last

row_cells : (rows : List (List ℕ)) (y : ℕ) → AllByRecursion Cells rows
    → Cells (slice_index_or rows y [])
row_cells [] y all = tt
row_cells (row ∷ rows) zero all = all.0
row_cells (row ∷ rows) (suc y) all = row_cells rows y all.1

-- a cell is read as its glyph, and a place without one as an empty cell
cell_glyph : (row : List ℕ) (x : ℕ) → Cells row
    → IsGlyph (slice_index_or (map glyph_of row) x empty)
cell_glyph [] x all = (omega arith, omega arith)
cell_glyph (byte ∷ row) zero all =
    let cell = all.0 in (grind (arith, nat_tests, cell), grind (arith, nat_tests, cell))
cell_glyph (byte ∷ row) (suc x) all = cell_glyph row x all.1

rows_glyph : (rows : List (List ℕ)) (p : Place) → AllByRecursion Cells rows
    → IsGlyph (glyph_of_rows rows p)
unfolding glyph_of_rows
rows_glyph rows p all = cell_glyph (slice_index_or rows p.y []) p.x (row_cells rows p.y all)

-- ---- its size

fits_read : (text : List ℕ) (i : ℕ) → IsGood text → NoneOffends text (length text)
    → i ≤ length text → IsFit largest (reading text i)
unfolding reading widest
fits_read text zero good clean few = record { high = omega arith; wide = omega arith }
fits_read text (suc i) good clean few =
    let below : i < length text = omega arith in
    subst (λ n. IsFit largest (reading text n)) (add-one i)
    (fits-more text i (reads text i good (omega (arith, below)))
    (none-offends text i (clean i below)) (fits_read text i good clean (omega (arith, below))))

-- ---- a grid

grid_if : (none : Bool) (sheet g : Sheet) → (if none then Err NoCells else Ok sheet) ≡ Ok g
    → (none ≡ false) × (sheet ≡ g)
grid_if true sheet g is = absurd cc
grid_if false sheet g is = (refl, cc)

refused_if : (refusal : Option GridRefusal) (rows : List (List ℕ)) (g : Sheet)
    → unless_refused refusal rows ≡ Ok g → (refusal ≡ None) × (grid_of_rows rows ≡ Ok g)
refused_if None rows g is = (refl, is)
refused_if (Some refusal) rows g is = absurd cc

pub sheet_read : (text : List ℕ) (g : Sheet) → grid_text text ≡ Ok g → IsSheet g
unfolding grid_text
sheet_read text g is =
    let n = length text in
    let r = reading text n in
    let rows = lines text in
    let read = refused_if (first_offence text n) rows g is in
    let clean = none_offends text n read.0 in
    let good : IsGood text = λ k h. (none-offends text k (clean k h)).good in
    let all = reads text n good (omega arith) in
    let fit = fits_read text n good clean (omega arith) in
    let size = size-read text r all in
    let some = grid_if ((length rows == 0) || (widest rows == 0)) (sheet_of_rows rows) g read.1 in
    let few : (length rows ≤ largest.h) × (widest rows ≤ largest.w) =
    let high = fit.high in let wide = fit.wide in (
      grind (arith, size, high),
      grind (arith, size, wide),
    ) in
    let cells = cells_read text n in
    let glyphs : AllByRecursion Cells rows =
    rw (lines-read text r all) (cells_rows r.ended r.begun cells.ended cells.begun) in
    subst IsSheet some.1
    (IsSheet-sheet_by (size_of_rows rows) (glyph_of_rows rows) (record {
      rows = grind (arith, nat_tests, some.0);
      few_rows = few.0;
      columns = grind (arith, nat_tests, some.0);
      few_columns = few.1;
    }) (λ p inside. rows_glyph rows p glyphs))

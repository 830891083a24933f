-- A printed grid is read as that grid.
use Rattle.std.proofs.Common.{◌≤◌, ◌≡◌, ℕ, ◌+◌, ◌<◌, ◌⊎◌, true, false, List, [], ◌∷◌, ◌++◌, length, get_or, map, append_assoc, Ok, inl, inr, refl, ap, ◌∙◌, arith}
use Rattle.std.specs.List.{All, AllPass, flat_map, range_with_len}
use Rattle.std.specs.Str.Lines.{lines}
use Rattle.std.proofs.lemmas.Bool.{ne_eqb}
use Rattle.std.proofs.lemmas.Bool.Decides.{nat_tests}
use Rattle.std.proofs.lemmas.Grind.{common_steps}
use Rattle.std.proofs.lemmas.List.{get_or-map, flat_map_more, length_push}
use Rattle.std.proofs.lemmas.List.Elements.{All-nil, All-head, All-tail, All-weaker, All-append, All-push, All-from_get_or}
use Rattle.std.proofs.lemmas.List.FromFn.{map-range_with_len_more, length-map-range_with_len, get_or-map-range_with_len}
use Rattle.std.proofs.lemmas.List.Recursion.{max_bounds, max_least}
use Rattle.orca_base.specs.Glyphs.{IsGlyph, empty}
use Rattle.orca_base.specs.Grids.{IsSize, Sheet, IsSheet, glyph_at}
use Rattle.orca_base.proofs.SheetFacts.{IsGlyph-glyph_at}
use Rattle.orca_grid.specs.GridText.{is_bad, is_cell, is_line_feed, glyph_of, glyph_of_rows, widest, size_of_rows, sheet_of_rows, grid_text, rows_of, row_of, line, text_of, IsClean}
use Rattle.orca_grid.proofs.Lines.{lines-ended}
use Rattle.orca_grid.proofs.Places.{offence-none}
use Rattle.orca_grid.proofs.Reading.{reading-more, IsGood, fits, fits-cell, reads, column_read}
use Rattle.orca_grid.proofs.Counting.{grid_text-clean}
use Rattle.orca_grid.proofs.Filling.{shows-sheet}

-- a cell more, and a row more
pub cell-more : (f : ℕ → ℕ) (old into : List ℕ) (x : ℕ) → into ≡ old ++ map f (range_with_len 0 x)
    → into ++ f x ∷ [] ≡ old ++ map f (range_with_len 0 (x + 1))
cell-more f old into x so_far = grind (arith, common_steps, map-range_with_len_more, append_assoc)

pub row-more : (f : ℕ → List ℕ) (old into : List ℕ) (y : ℕ)
    → into ≡ old ++ flat_map line (map f (range_with_len 0 y))
    → into ++ line (f y) ≡ old ++ flat_map line (map f (range_with_len 0 (y + 1)))
row-more f old into y so_far =
    let next = map-range_with_len_more f 0 y y (omega arith) in
    rw (so_far, next) (flat_map_more line old (map f (range_with_len 0 y)) (f y))

-- ---- a text of rows of cell bytes

abbrev AllRows : List (List ℕ) → Type 0
AllRows rows = All (AllPass is_cell) rows

-- its lines are the rows
lines-rows : (rows : List (List ℕ)) → AllRows rows → lines (flat_map line rows) ≡ rows
lines-rows [] all = refl
lines-rows (row ∷ rows) all =
    let first = lines-ended row (flat_map line rows) (All-head (AllPass is_cell) row rows all) in
    rw (append_assoc, first, lines-rows rows (All-tail (AllPass is_cell) row rows all)) refl

-- it holds cell bytes and line feeds
abbrev IsPlain : ℕ → Type 0
IsPlain byte = (is_cell byte ≡ true) ⊎ (is_line_feed byte ≡ true)

plain-rows : (rows : List (List ℕ)) → AllRows rows → All IsPlain (flat_map line rows)
plain-rows [] all = All-nil IsPlain
plain-rows (row ∷ rows) all =
    let cells = All-head (AllPass is_cell) row rows all in
    let plain = All-weaker (λ b. is_cell b ≡ true) IsPlain (λ b cell. inl cell) row cells in
    let rest = plain-rows rows (All-tail (AllPass is_cell) row rows all) in
    let ended = All-push IsPlain row 10 plain (inr refl) in
    All-append IsPlain (line row) (flat_map line rows) ended rest

plain-good : (text : List ℕ) (i : ℕ) → IsPlain (get_or text i 0) → is_bad text i ≡ false
plain-good text i (inl cell) = grind (arith, nat_tests)
plain-good text i (inr end) = grind (arith, nat_tests)

-- no byte of it offends where its lines are few and short
plain-clean : (text : List ℕ) → All IsPlain text → IsSize (size_of_rows (lines text)) → IsClean text
plain-clean text plain size k h =
    let good : IsGood text = λ i below. plain-good text i (plain i 0 below) in
    let read = reads text k good (omega (arith, h)) in
    let next = fits text (k + 1) good (omega (arith, h)) in
    offence-none text k (record {
      row = elim (plain k 0 h) [
        | inl cell ↦
            let row = (fits-cell text k good h cell).row in
            omega (arith, read.row, row, size.few_rows)
        | inr end ↦
            let row = (rw (reading-more true _ text k end refl) at next).high in
            omega (arith, read.row, row, length_push {X = List ℕ}, size.few_rows)
      ];
      good = good k h;
      column = λ cell full.
          let column = (fits-cell text k good h cell).column in
          omega (arith, full, column_read text k _ read, column, size.few_columns);
    })

-- ---- the rows of a grid

glyph-cell : (b : ℕ) → IsGlyph b → is_cell b ≡ true
glyph-cell b glyph = grind (arith, nat_tests)

glyph_of-glyph : (b : ℕ) → IsGlyph b → glyph_of b ≡ b
glyph_of-glyph b glyph = grind (arith, nat_tests)

row-at : (g : Sheet) (y : ℕ) → y < g.dims.h → get_or (rows_of g) y [] ≡ row_of g y
row-at g y h = get_or-map-range_with_len (row_of g) 0 g.dims.h y y [] h (omega arith)

glyph-at : (g : Sheet) (y x : ℕ) → x < g.dims.w
    → get_or (row_of g y) x 0 ≡ glyph_at g (record { y = y; x = x })
glyph-at g y x h =
    let row = λ (x : ℕ). glyph_at g (record { y = y; x = x }) in
    get_or-map-range_with_len row 0 g.dims.w x x 0 h (omega arith)

length-row_of : (g : Sheet) (y : ℕ) → length (row_of g y) ≡ g.dims.w
length-row_of g y =
    length-map-range_with_len (λ x. glyph_at g (record { y = y; x = x })) 0 g.dims.w

length-rows_of : (g : Sheet) → length (rows_of g) ≡ g.dims.h
length-rows_of g = length-map-range_with_len (row_of g) 0 g.dims.h

IsGlyph-place : (g : Sheet) (y x : ℕ) → IsSheet g → y < g.dims.h → x < g.dims.w
    → IsGlyph (glyph_at g (record { y = y; x = x }))
IsGlyph-place g y x sheet row column =
    IsGlyph-glyph_at g (record { y = y; x = x }) sheet (record { row = row; column = column })

all-cells : (g : Sheet) → IsSheet g → AllRows (rows_of g)
all-cells g sheet =
    All-from_get_or (AllPass is_cell) (rows_of g) [] (λ y high.
    let row : y < g.dims.h = omega (arith, high, length-rows_of g) in
    rw (row-at g y row) (All-from_get_or (λ b. is_cell b ≡ true) (row_of g y) 0 (λ x wide.
    let column : x < g.dims.w = omega (arith, wide, length-row_of g y) in
    rw (glyph-at g y x column) (glyph-cell _ (IsGlyph-place g y x sheet row column)))))

size-rows : (g : Sheet) → IsSheet g → size_of_rows (rows_of g) ≡ g.dims
unfolding widest
size-rows g sheet =
    let high : length (rows_of g) ≡ g.dims.h = length-rows_of g in
    let rows = rows_of g in
    let long = λ (y : ℕ) (h : y < length rows).
    ap length (row-at g y (omega (arith, h, high))) ∙ length-row_of g y in
    let some : 0 < length rows = omega (arith, high, sheet.size.rows) in
    let short : (y : ℕ) → y < length rows → length (get_or rows y []) ≤ g.dims.w =
    λ y h. omega (arith, long y h) in
    let least = max_least widest length refl (λ row rows. refl) rows [] g.dims.w short in
    let most = max_bounds widest length refl (λ row rows. refl) rows 0 [] some in
    let wide : widest rows ≡ g.dims.w = omega (arith, least, most, long 0 some) in
    rw (high, wide) refl

sheet-rows : (g : Sheet) → IsSheet g → g ≡ sheet_of_rows (rows_of g)
unfolding glyph_of_rows
sheet-rows g sheet =
    shows-sheet (rows_of g) g (rw (size-rows g sheet) sheet.size) (rw (size-rows g sheet) (record {
      dims = refl;
      whole = sheet.whole;
      each = λ at inside.
          let wide : at.x < length (row_of g at.y) =
          omega (arith, inside.column, length-row_of g at.y) in
          let row = get_or-map glyph_of (row_of g at.y) at.x 0 empty wide in
          let glyph = glyph_of-glyph (glyph_at g at) (IsGlyph-glyph_at g at sheet inside) in
          rw (row-at g at.y inside.row, row, glyph-at g at.y at.x inside.column, glyph) refl;
    }))

-- a printed grid is read as that grid
pub text_of-read : (g : Sheet) → IsSheet g → grid_text (text_of g) ≡ Ok g
unfolding text_of
text_of-read g sheet =
    let rows = rows_of g in
    let all = all-cells g sheet in
    let same = lines-rows rows all in
    let size = ap size_of_rows same ∙ size-rows g sheet in
    let clean = plain-clean (flat_map line rows) (plain-rows rows all) (rw size sheet.size) in
    let high = ne_eqb g.dims.h 0 (λ e. omega (arith, e, sheet.size.rows)) in
    let wide = ne_eqb g.dims.w 0 (λ e. omega (arith, e, sheet.size.columns)) in
    let read = grid_text-clean (flat_map line rows) g.dims clean size in
    rw (read, high, wide, same, ← sheet-rows g sheet) refl

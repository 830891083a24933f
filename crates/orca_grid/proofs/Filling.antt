-- The second pass: each cell is written to its place.
use Rattle.std.proofs.Common.{Some, None, ◌≡◌, ℕ, ◌+◌, ◌<◌, Bool, true, false, List, [], ◌∷◌, ◌++◌, length, map, get_or, refl, sym, ap, ◌∙◌, arith}
use Rattle.std.proofs.Math.ListN.{set}
use Rattle.std.specs.Prelude.{if◌then◌else◌, ◌==◌, ◌&&◌}
use Rattle.std.specs.Str.Lines.{lines}
use Rattle.std.proofs.lemmas.Bool.Decides.{nat_tests}
use Rattle.std.proofs.lemmas.Grind.{common_steps}
use Rattle.std.proofs.lemmas.List.{get_or_push, get_or_past, get_or-replicate, length-set, length-map, length-replicate, map_push, append-nil}
use Rattle.orca_base.specs.Glyphs.{empty}
use Rattle.orca_base.specs.Grids.{Size, IsSize, Sheet, IsInside, cells_of, index_of, is_place, sheet_by}
use Rattle.orca_base.specs.declared.place.Place.{Place}
use Rattle.orca_base.proofs.PlaceFacts.{index_of-below, is_place-index}
use Rattle.orca_base.proofs.SheetFacts.{sheet-same}
use Rattle.orca_grid.specs.BlankGrid.{blank_sheet}
use Rattle.orca_grid.specs.GridText.{is_cell, glyph_of, glyph_of_rows, size_of_rows, sheet_of_rows, IsClean}
use Rattle.orca_grid.proofs.Lines.{last_row}
use Rattle.orca_grid.proofs.Places.{none-offends}
use Rattle.orca_grid.proofs.Reading.{Reading, place_of_next, reading, IsGood, IsFit, fits, fits-cell, reads, lines-read}

pub cond_none : (b : Bool) (x : ℕ) → (if b then Some x else None) ≡ None → b ≡ false
cond_none true x same = cc
cond_none false x same = refl

-- ---- the glyphs of rows

get_or-push_if : {X : Type 0} (xs : List X) (y d : X) (n : ℕ)
    → get_or (xs ++ y ∷ []) n d ≡ (if n == length xs then y else get_or xs n d)
get_or-push_if xs y d n = grind (arith, common_steps, nat_tests, get_or_push, get_or_past)

-- an empty row more
glyph-row : (rows : List (List ℕ)) (p : Place)
    → glyph_of_rows (rows ++ [] ∷ []) p ≡ glyph_of_rows rows p
unfolding glyph_of_rows
glyph-row rows p =
    let same : get_or (rows ++ [] ∷ []) p.y [] ≡ get_or rows p.y [] =
    grind (arith, common_steps, get_or_push, get_or_past) in
    ap (λ row. get_or (map glyph_of row) p.x empty) same

-- a cell more
glyph-by : (same : Bool) (row begun : List ℕ) (byte x : ℕ)
    → get_or (map glyph_of (if same then begun ++ byte ∷ [] else row)) x empty
    ≡ (if same && (x == length begun) then glyph_of byte
    else get_or (map glyph_of (if same then begun else row)) x empty)
glyph-by true row begun byte x =
    rw (map_push glyph_of begun byte, ← length-map begun glyph_of)
    (get_or-push_if (map glyph_of begun) (glyph_of byte) empty x)
glyph-by false row begun byte x = refl

glyph-cell : (ended : List (List ℕ)) (begun : List ℕ) (byte : ℕ) (p : Place)
    → glyph_of_rows (ended ++ (begun ++ byte ∷ []) ∷ []) p
    ≡ (if is_place p (record { y = length ended; x = length begun }) then glyph_of byte
    else glyph_of_rows (ended ++ begun ∷ []) p)
unfolding glyph_of_rows
glyph-cell ended begun byte p =
    rw (get_or-push_if ended (begun ++ byte ∷ []) [] p.y, get_or-push_if ended begun [] p.y)
    (glyph-by (p.y == length ended) (get_or ended p.y []) begun byte p.x)

glyph-last : (ended : List (List ℕ)) (begun : List ℕ) (p : Place)
    → glyph_of_rows (ended ++ begun ∷ []) p ≡ glyph_of_rows (ended ++ last_row begun) p
glyph-last ended [] p = rw (append-nil ended) (glyph-row ended p)
glyph-last ended (c ∷ begun) p = refl

-- ---- a grid of this size that shows the rows

pub record Shows (d : Size) (rows : List (List ℕ)) (g : Sheet) : Type 0 where
  pub dims : g.dims ≡ d
  pub whole : length g.cells ≡ cells_of d
  pub each : (p : Place) → IsInside d p → get_or g.cells (index_of d p) 0 ≡ glyph_of_rows rows p

pub shows-blank : (d : Size) (g : Sheet) → g ≡ blank_sheet d → Shows d ([] ∷ []) g
unfolding glyph_of_rows
shows-blank d g blank =
    rw blank (record {
      dims = refl;
      whole = length-replicate (cells_of d) empty;
      each = λ p inside.
          let below = index_of-below d p inside in
          rw (get_or-replicate (cells_of d) (index_of d p) empty 0 below, glyph-row [] p) refl;
    })

pub shows-row : (d : Size) (rows : List (List ℕ)) (g : Sheet) → Shows d rows g
    → Shows d (rows ++ [] ∷ []) g
shows-row d rows g shows =
    record {
      dims = shows.dims;
      whole = shows.whole;
      each = λ p inside. shows.each p inside ∙ sym (glyph-row rows p);
    }

-- a written cell
index-set : (d : Size) (cells : List ℕ) (at p : Place) (glyph : ℕ) → length cells ≡ cells_of d
    → IsInside d at → IsInside d p
    → get_or (set cells (index_of d at) glyph) (index_of d p) 0
    ≡ (if is_place p at then glyph else get_or cells (index_of d p) 0)
index-set d cells at p glyph whole inside within =
    let below = index_of-below d at inside in
    rw (is_place-index d p at within inside) (grind (arith, common_steps, nat_tests))

pub shows-cell : (d : Size) (ended : List (List ℕ)) (begun : List ℕ) (byte : ℕ) (old new : Sheet)
    (at : Place) (glyph : ℕ)
    → IsInside d at → at ≡ record { y = length ended; x = length begun } → glyph_of byte ≡ glyph
    → new ≡ record old { cells = set old.cells (index_of old.dims at) glyph }
    → Shows d (ended ++ begun ∷ []) old → Shows d (ended ++ (begun ++ byte ∷ []) ∷ []) new
shows-cell d ended begun byte old new at glyph inside is_at is put shows =
    let cells = rw shows.dims at (ap (λ (g : Sheet). g.cells) put) in
    record {
      dims = ap (λ (g : Sheet). g.dims) put ∙ shows.dims;
      whole = ap length cells ∙ (length-set old.cells (index_of d at) glyph ∙ shows.whole);
      each = λ p within.
          let written = index-set d old.cells at p glyph shows.whole inside within in
          rw (cells, written, shows.each p within, glyph-cell ended begun byte p, is, is_at) refl;
    }

pub shows-sheet : (rows : List (List ℕ)) (g : Sheet) → IsSize (size_of_rows rows)
    → Shows (size_of_rows rows) rows g → g ≡ sheet_of_rows rows
shows-sheet rows g size shows =
    let glyph = glyph_of_rows rows in
    sheet-same g glyph (rw shows.dims size) (rw shows.dims shows.whole) (rw shows.dims shows.each)
    ∙ ap (λ d. sheet_by d glyph) shows.dims

-- ---- the cells before a place of the text are written

-- the rows so far, with the row that has begun
abbrev pub rows_with : Reading → List (List ℕ)
rows_with r = r.ended ++ r.begun ∷ []

pub record Fills (text : List ℕ) (i : ℕ) (at : Place) (g : Sheet) : Type 0 where
  pub size : IsSize (size_of_rows (lines text))
  pub good : IsGood text
  pub fit : IsFit (size_of_rows (lines text)) (reading text i)
  pub at_is : at ≡ place_of_next (reading text i)
  pub shows : Shows (size_of_rows (lines text)) (rows_with (reading text i)) g

pub fills-start : (text : List ℕ) (g : Sheet) → IsClean text → IsSize g.dims
    → g ≡ blank_sheet (size_of_rows (lines text)) → Fills text 0 (record { y = 0; x = 0 }) g
unfolding reading
fills-start text g clean size blank =
    let good : IsGood text = λ k h. (none-offends text k (clean k h)).good in
    record {
      size = rw blank at size;
      good = good;
      fit = fits text 0 good (omega arith);
      at_is = refl;
      shows = shows-blank _ g blank;
    }

pub fills-more : (text : List ℕ) (i : ℕ) (at at' : Place) (old new : Sheet) (next : Reading)
    → Fills text i at old → i < length text → reading text (i + 1) ≡ next → at' ≡ place_of_next next
    → Shows (size_of_rows (lines text)) (rows_with next) new → Fills text (i + 1) at' new
fills-more text i at at' old new next fills h is at_is shows =
    record {
      size = fills.size;
      good = fills.good;
      fit = fits text (i + 1) fills.good (omega (arith, h));
      at_is = rw is at_is;
      shows = rw is shows;
    }

pub fills-inside : (text : List ℕ) (i : ℕ) (at : Place) (g : Sheet) → Fills text i at g
    → i < length text → is_cell (get_or text i 0) ≡ true → IsInside (size_of_rows (lines text)) at
fills-inside text i at g fills h cell = rw fills.at_is (fits-cell text i fills.good h cell)

-- at the end of the text all are written
pub fills-end : (text : List ℕ) (i : ℕ) (at : Place) (g : Sheet) → i ≡ length text
    → Fills text i at g → g ≡ sheet_of_rows (lines text)
fills-end text i at g end fills =
    let r = reading text i in
    let rows = lines-read text r (rw end (reads text (length text) fills.good (omega arith))) in
    shows-sheet (lines text) g fills.size (record {
      dims = fills.shows.dims;
      whole = fills.shows.whole;
      each = λ p inside.
          let last = glyph-last r.ended r.begun p in
          fills.shows.each p inside ∙ (last ∙ ap (λ rows. glyph_of_rows rows p) (sym rows));
    })

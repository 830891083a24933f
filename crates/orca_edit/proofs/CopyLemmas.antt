-- The glyphs of an area, read one after the other.
use Rattle.std.proofs.Common.{◌≡◌, ℕ, ◌+◌, ◌*◌, List, [], ◌∷◌, ◌++◌, length, arith, ap, sym, ◌∙◌, zero-add}
use Rattle.std.proofs.Math.Nat.{sub-zero}
use Rattle.std.specs.Prelude.{map}
use Rattle.std.specs.List.{range_with_len}
use Rattle.std.proofs.lemmas.List.FromFn.{map-range_with_len_more}
use Rattle.orca_base.specs.declared.area.Area.{Area}
use Rattle.orca_base.specs.declared.place.Place.{Place}
use Rattle.orca_base.specs.Areas.{IsArea, corner_of, size_of}
use Rattle.orca_base.specs.Edits.{block_of, moved, origin}
use Rattle.orca_base.specs.Grids.{Size, Sheet, IsSheet, IsSize, IsInside, by_place, glyph_at, place_of}
use Rattle.orca_base.proofs.SheetFacts.{AreGlyphs-by_place, IsGlyph-glyph_at, length-by_place}
use Rattle.orca_board.specs.Blocks.{nth_place}
use Rattle.orca_edit.specs.Editing.{IsBlock}

-- the first glyphs of an area
abbrev pub first_glyphs : Sheet → Area → ℕ → List ℕ
first_glyphs g area n = map (λ i. glyph_at g (nth_place area i)) (range_with_len 0 n)

-- the place that lies in an area as `within` lies in a block
placed : (area : Area) (within : Place)
    → ◌≡◌ {A = Place} (record { y = area.y + within.y; x = area.x + within.x })
    (moved origin (corner_of area) within)
placed area within = simp sub-zero

-- one glyph more is read
pub first_glyphs-more : (g : Sheet) (area : Area) (n : ℕ) (read : List ℕ) (within at : Place)
    (glyph : ℕ) → read ≡ first_glyphs g area n → within ≡ place_of (size_of area) n
    → at ≡ record { y = area.y + within.y; x = area.x + within.x } → glyph ≡ glyph_at g at
    → read ++ glyph ∷ [] ≡ first_glyphs g area (n + 1)
first_glyphs-more g area n read within at glyph before place is reads =
    let there : at ≡ nth_place area n =
    is ∙ (placed area within ∙ ap (moved origin (corner_of area)) place) in
    let glyph_is : glyph ≡ glyph_at g (nth_place area n) = reads ∙ ap (glyph_at g) there in
    ap (λ (xs : List ℕ). xs ++ glyph ∷ []) before
    ∙ (ap (λ (x : ℕ). first_glyphs g area n ++ x ∷ []) glyph_is
    ∙ sym (map-range_with_len_more (λ i. glyph_at g (nth_place area i)) 0 n n (zero-add n)))

-- all are read
all_read : (g : Sheet) (area : Area) (n : ℕ) (read : List ℕ) → read ≡ first_glyphs g area n
    → n ≡ area.h * area.w → read ≡ (block_of g area).cells
unfolding by_place
all_read g area n read before all = before ∙ ap (first_glyphs g area) all

pub length-all_read : (g : Sheet) (area : Area) (n : ℕ) (read : List ℕ)
    → read ≡ first_glyphs g area n → n ≡ area.h * area.w → length read ≡ area.h * area.w
length-all_read g area n read before all =
    ap (λ (xs : List ℕ). length xs) (all_read g area n read before all)
    ∙ length-by_place (size_of area) (λ at. glyph_at g (moved origin (corner_of area) at))

pub block_read : (g : Sheet) (area : Area) (n : ℕ) (read : List ℕ) (block : Sheet)
    → read ≡ first_glyphs g area n → n ≡ area.h * area.w
    → block ≡ record { dims = size_of area; cells = read } → block ≡ block_of g area
block_read g area n read block before all is =
    is
    ∙ ap (λ (cells : List ℕ). record { dims = size_of area; cells = cells })
    (all_read g area n read before all)

-- a place of an area, counted from its corner, lies in the grid
pub inside-moved : (d : Size) (area : Area) (within : Place) → IsArea d area
    → IsInside (size_of area) within → IsInside d (moved origin (corner_of area) within)
inside-moved d area within fits inside = record {
  row = omega (arith, fits.bottom, inside.row);
  column = omega (arith, fits.right, inside.column);
}

-- a copied block has a glyph for each of its places
pub IsBlock-block_of : (g : Sheet) (area : Area) → IsSheet g → IsArea g.dims area
    → IsSize (size_of area) → IsBlock (block_of g area)
IsBlock-block_of g area sheet fits size = record {
  whole = length-by_place (size_of area)
      (λ at. glyph_at g (moved origin (corner_of area) at));
  glyphs = AreGlyphs-by_place (size_of area)
      (λ at. glyph_at g (moved origin (corner_of area) at)) size
      (λ at inside. IsGlyph-glyph_at g _ sheet (inside-moved g.dims area at fits inside));
}

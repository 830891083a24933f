-- The cells of a grid, one word after another.
use Rattle.std.proofs.Common.{◌≡◌, ◌≢◌, ℕ, ◌+◌, ◌<◌, true, Some, None, length, get_or, refl, ap, ◌∙◌, arith, below_more}
use Rattle.std.proofs.Math.ListN.{set}
use Rattle.std.specs.Prelude.{◌↔◌, Option, IsSome, IsNone, slice_index}
use Rattle.std.proofs.lemmas.Bool.{agree_below_at, and_parts, leb-true}
use Rattle.std.proofs.lemmas.List.{get_or-set_same, get_or-set_other, length-set, length-replicate}
use Rattle.orca_base.specs.Glyphs.{empty, IsGlyph, is_glyph}
use Rattle.orca_base.specs.declared.place.Place.{Place}
use Rattle.orca_base.proofs.PlaceFacts.{index_of-below}
use Rattle.orca_base.proofs.SheetFacts.{sheet-same}
use Rattle.orca_grid.specs.BlankGrid.{blank_sheet}
use Rattle.orca_cues.specs.declared.maker.TheConstants.{PALETTE}
use Rattle.orca_base.specs.Grids.{Size, IsSize, Sheet, cells_of, index_of, sheet_by}
use Rattle.orca_cues.specs.Made.{generator_of, made_word, made_glyph, made_sheet}
use Rattle.rand_pcg.specs.Lcg.{Lcg}
use Rattle.rand_pcg.specs.Pcg.{pcg32}
use Rattle.orca_cues.proofs.Words.{drawn, drawn-next, drawn-word, drawn-zero}

-- the first n cells have their glyphs, and the generator stands after their words
pub record Draws (seed : ℕ) (dims : Size) (n : ℕ) (grid : Sheet) (words : Lcg) : Type 0 where
  pub dims_are : grid.dims ≡ dims
  pub whole : length grid.cells ≡ cells_of dims
  pub cells : (k : ℕ) → k < n → get_or grid.cells k 0 ≡ made_glyph (made_word seed k)
  pub words_are : words ≡ drawn seed n

pub draws-start : (seed : ℕ) (dims : Size) (grid : Sheet) (words : Lcg) → grid ≡ blank_sheet dims →
    words ≡ generator_of seed → Draws seed dims 0 grid words
draws-start seed dims grid words blank start =
    rw blank (record {
      dims_are = refl;
      whole = length-replicate (cells_of dims) empty;
      cells = λ k below. absurd (omega (arith, below));
      words_are = start ∙ drawn-zero seed;
    })

module _ (seed : ℕ) (dims : Size) (n : ℕ) (grid : Sheet) (words : Lcg)
    (draws : Draws seed dims n grid words) where
  -- the cell of the next word
  pub draws-more : (new : Sheet) (at : Place) (word glyph : ℕ) (words' : Lcg) → n < cells_of dims →
      index_of dims at ≡ n → (word, words') ≡ pcg32 words → glyph ≡ made_glyph word →
      new ≡ record grid { cells = set grid.cells (index_of grid.dims at) glyph } →
      Draws seed dims (n + 1) new words'
  draws-more new at word glyph words' below number drawn_word is put =
      let word_is : word ≡ made_word seed n =
      ap (λ (w : ℕ × Lcg). w.0) drawn_word ∙ drawn-word seed n words draws.words_are in
      let index : index_of grid.dims at ≡ n = rw draws.dims_are number in
      let cells : new.cells ≡ set grid.cells n glyph =
      ap (λ (g : Sheet). g.cells) put ∙ ap (λ i. set grid.cells i glyph) index in
      let fits : n < length grid.cells = omega (arith, below, draws.whole) in
      record {
        dims_are = ap (λ (g : Sheet). g.dims) put ∙ draws.dims_are;
        whole = ap length cells ∙ (length-set grid.cells n glyph ∙ draws.whole);
        cells = below_more (λ k. get_or new.cells k 0 ≡ made_glyph (made_word seed k)) n
            (λ k under.
            let other : k ≢ n = omega (arith, under) in
            ap (λ c. get_or c k 0) cells
            ∙ (get_or-set_other grid.cells n k glyph 0 other ∙ draws.cells k under))
            (ap (λ c. get_or c n 0) cells
            ∙ (get_or-set_same grid.cells n glyph 0 fits ∙ (is ∙ ap made_glyph word_is)));
        words_are = ap (λ (w : ℕ × Lcg). w.1) drawn_word ∙ drawn-next seed n words draws.words_are;
      }

  -- with the last word the grid is made
  pub draws-end : n ≡ cells_of dims → IsSize dims → grid ≡ made_sheet seed dims
  draws-end all size =
      let glyph = λ (at : Place). made_glyph (made_word seed (index_of dims at)) in
      sheet-same grid glyph (rw draws.dims_are size) (rw draws.dims_are draws.whole)
      (λ at inside.
      let here = rw draws.dims_are at inside in
      let below = index_of-below dims at here in
      rw draws.dims_are (draws.cells (index_of dims at) (omega (arith, below, all))))
      ∙ ap (λ d. sheet_by d glyph) draws.dims_are

-- ---- the palette

pub palette_glyph : (n : ℕ) → n < 70 → IsGlyph (slice_index PALETTE n)
palette_glyph n below =
    let glyph : is_glyph (slice_index PALETTE n) ≡ true =
    agree_below_at (λ k. is_glyph (slice_index PALETTE k)) (λ k. true) 70 n refl below in
    let both = and_parts _ _ glyph in
    (leb-true 33 (slice_index PALETTE n) both.0, leb-true (slice_index PALETTE n) 126 both.1)

-- a glyph is found where there is one
pub some_glyph : (byte : ℕ) (found : Option ℕ) → (IsNone found ↔ (IsGlyph byte → ⊥)) →
    IsGlyph byte → IsSome found
some_glyph byte None none glyph = absurd (none.0 refl glyph)
some_glyph byte (Some found) none glyph = refl

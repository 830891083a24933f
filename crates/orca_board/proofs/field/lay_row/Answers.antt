use Rattle.std.proofs.Common.{ℕ, ◌≡◌, ◌+◌, ◌*◌, ◌-◌, ◌<◌, ◌≤◌, ◌∙◌, List, length, arith, ap, subst, inl, inr}
use Rattle.std.specs.Prelude.{slice_index}
use borrow.Rule.Slice.PartMut.{put_mid}
use Rattle.std.proofs.lemmas.Bool.{cases_lt}
use Rattle.orca_base.specs.declared.limits.TheConstants.{MAX_COLUMNS, ROW_WORDS, WORD_COLUMNS}
use Rattle.orca_base.specs.Glyphs.{IsGlyph}
use Rattle.orca_base.proofs.SheetFacts.{AreGlyphs-each}
use Rattle.orca_board.proofs.LiveBitsLemmas.{bits-laid, word-cells}
use Rattle.orca_board.proofs.RowLemmas.{put_at}
use Rattle.orca_board.proofs.field.lay_row.Goals as goal

-- a cell of the word that is written holds a glyph
glyph : (c : goal.After-set_word) (i : ℕ) → i < length c.args.glyphs.now
    → c.loop-k.k * WORD_COLUMNS ≤ i → i < c.loop-k.k * WORD_COLUMNS + WORD_COLUMNS
    → IsGlyph (slice_index c.args.glyphs.now i)
glyph c i few past below =
    let word : ℕ = c.args.row * ROW_WORDS + c.loop-k.k in
    let j : ℕ = i - c.loop-k.k * WORD_COLUMNS in
    let near : j < WORD_COLUMNS = omega (arith, past, below) in
    let first : c.args.row * c.from.result ≡ c.args.row * MAX_COLUMNS =
    ap (λ columns. c.args.row * columns) c.from.ensures in
    let number : word * WORD_COLUMNS + j ≡ c.args.row * c.from.result + i =
    omega (arith, first, past) in
    let cells : List ℕ = put_mid (c.args.row * c.from.result)
    (c.args.row * c.from.result + length c.args.glyphs.now - c.args.row * c.from.result)
    c.args.cells.now c.copy_from_slice.new.self in
    let many : length c.copy_from_slice.new.self ≡ length c.args.glyphs.now =
    ap (λ (xs : List ℕ). length xs) c.copy_from_slice.ensures.after in
    subst IsGlyph (word-cells cells word c.from-columns.result j c.from-columns.ensures near
    ∙ (ap (λ n. slice_index cells n) number
    ∙ (put_at (c.args.row * c.from.result)
    (c.args.row * c.from.result + length c.args.glyphs.now - c.args.row * c.from.result)
    c.args.cells.now c.copy_from_slice.new.self i
    (omega (arith, first, c.requires.row, c.requires.whole)) (omega (arith, few, many))
    ∙ ap (λ (xs : List ℕ). slice_index xs i) c.copy_from_slice.ensures.after)))
    (c.set_word.ensures.glyphs j near)

pub loop-k-preserved : goal.loop-k-preserved
loop-k-preserved c =
    let word : ℕ = c.args.row * ROW_WORDS + c.loop-k.k in
    record {
      glyphs = λ i below few. elim (cases_lt i (c.loop-k.k * WORD_COLUMNS)) [
        | inl before ↦ c.loop-k.invariant.glyphs i before few
        | inr past ↦ glyph c i few past (omega (arith, below))
      ];
      done = λ n below. bits-laid _ _ _ _ word n
          (λ j few. word-cells _ word c.from-columns.result j c.from-columns.ensures few)
          (c.set_word.ensures.bits n)
          (λ apart. c.loop-k.invariant.done n (omega (arith, below, apart)));
      rest = λ n most past. bits-laid _ _ _ _ word n
          (λ j few. word-cells _ word c.from-columns.result j c.from-columns.ensures few)
          (c.set_word.ensures.bits n)
          (λ apart. c.loop-k.invariant.rest n most past);
    }

pub returns-clause-glyphs : goal.returns-clause-glyphs
returns-clause-glyphs c =
    AreGlyphs-each c.args.glyphs.now (λ i few. c.loop-k.invariant.glyphs i
    (omega (arith, few, rw c.from-columns.ensures at c.loop-k-test.false)) few)

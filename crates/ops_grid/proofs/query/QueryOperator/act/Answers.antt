use Rattle.std.proofs.Common.{◌≡◌, ℕ, ◌+◌, ◌<◌, slice_index, pos, ap, ◌∙◌, arith, rules}
use Rattle.orca_base.specs.Glyphs.{value}
use Rattle.orca_base.specs.Grids.{off}
use Rattle.orca_op.specs.State.{peek}
use Rattle.orca_base.specs.Grids.{left}
use Rattle.orca_op.specs.GridRules.{source, query_one}
use Rattle.orca_op.proofs.LawFacts.{each-by}
use Rattle.ops_grid.proofs.RowLemmas.{gathered_marked}
use Rattle.ops_grid.proofs.query.QueryOperator.act.Goals as goal

pub returns-clause-deeds : goal.returns-clause-deeds
returns-clause-deeds g c =
    let s = (g.B.Bench.slate c.args.bench.now).scan in
    let at = c.args.at in
    let x = c.value-x.result in
    let y = c.value-y.result in
    let length = c.value-length.result in
    let x_is : x ≡ value (peek s (left at 3)) = cc in
    let y_is : y ≡ value (peek s (left at 2)) = cc in
    let length_is : length ≡ value (peek s (left at 1)) = cc in
    let read : (i : ℕ) → i < length
    → slice_index c.read-operands.result i ≡ peek s (source at y (x + i)) = λ i below.
    let column : i + (x + 1) ≡ x + i + 1 = omega arith in
    c.read-operands.ensures.glyphs i below ∙ ap (λ (n : ℕ). peek s (off at (pos y) (pos n))) column
    in
    let written =
    gathered_marked _ _ _ at y x length (λ (i : ℕ). slice_index c.read-operands.result i)
    c.input_span.ensures.deeds c.gather.ensures.deeds in
    let same = each-by length (λ (i glyph : ℕ). query_one at y x length i glyph)
    (λ (i : ℕ). slice_index c.read-operands.result i) (λ (i : ℕ). peek s (source at y (x + i)))
    read in
    written ∙ rw (← x_is, ← y_is, ← length_is, ← same) (search rules)

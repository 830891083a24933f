use Rattle.std.proofs.Common.{arith, ap, refl, ◌∙◌}
use Rattle.orca_base.specs.Grids.{Size, index_of}
use Rattle.orca_board.specs.Board.{slate_of}
use Rattle.orca_board.proofs.SpanLemmas.{bang_inner}
use Rattle.orca_board.proofs.field.FieldBench.beside_bang.Goals as goal

pub returns-then-i-row-2-clause-bang : goal.returns-then-i-row-2-clause-bang
returns-then-i-row-2-clause-bang g c =
    let number =
    c.index-i.ensures.index ∙ ap (λ (d : Size). index_of d c.args.at) c.largest.ensures in
    let wide = c.self.invariant.lists.slate.state.sheet.size.few_columns in
    let inside = rw (← c.self.view_is) at c.requires.column in
    let cells = rw c.deref.ensures.value at c.bang_around.ensures in
    rw (← c.self.view_is)
    (cells
    ∙ bang_inner (slate_of c.self.inside).scan c.self.inside.cells.items c.args.at c.index-i.result
    c.self.invariant.lists.slate.state.sheet.size refl c.self.invariant.outside
    c.self.invariant.whole
    (omega (arith, c.if-i-row.true, c.from-row.ensures, number, inside, wide))
    (omega (arith, c.if-i-row-2.true, c.from-row.ensures, number))
    (omega (arith, inside, wide)) number)

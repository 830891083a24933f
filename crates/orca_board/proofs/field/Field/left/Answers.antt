use Rattle.std.proofs.Common.{arith, ap, refl, ◌∙◌}
use Rattle.std.specs.Prelude.{◌-◌}
use Rattle.orca_base.specs.Grids.{Size, left, index_of}
use Rattle.orca_board.specs.Board.{slate_of}
use Rattle.orca_board.proofs.SpanLemmas.{one_less, peek_left, peek_cell, still}
use Rattle.orca_board.proofs.field.Field.left.Goals as goal

pub returns-then-at-eq0 : goal.returns-then-at-eq0
returns-then-at-eq0 c =
    rw (← c.self.view_is) (peek_left (slate_of c.self.inside).scan c.args.at
    c.self.invariant.lists.slate.state.sheet.size c.if-at-eq0.true)

pub returns : goal.returns
returns c =
    let inside = rw (← c.self.view_is) at c.requires in
    let size = c.self.invariant.lists.slate.state.sheet.size in
    let number =
    c.index-i.ensures.index ∙ ap (λ (d : Size). index_of d c.args.at) c.largest.ensures in
    rw (← c.self.view_is)
    (peek_cell (slate_of c.self.inside).scan c.self.inside.cells.items (left c.args.at 1) c.args.at.y
    (c.args.at.x - 1) _ c.index.result.now size refl c.self.invariant.outside
    c.self.invariant.whole
    (still c.args.at.y) (one_less c.args.at.x (omega (arith, c.if-at-eq0.false)))
    (omega (arith, inside.row, size.few_rows)) (omega (arith, inside.column, size.few_columns))
    (omega (arith, number, c.if-at-eq0.false)) c.index.ensures)

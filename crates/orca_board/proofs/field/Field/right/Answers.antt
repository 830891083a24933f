use Rattle.std.proofs.Common.{arith, ap, refl, ◌∙◌}
use Rattle.orca_base.specs.Grids.{Size, right, index_of}
use Rattle.std.specs.Prelude.{ℕ, pos, ◌+◌}
use Rattle.orca_base.specs.declared.limits.TheConstants.{MAX_COLUMNS}
use Rattle.orca_board.specs.Board.{slate_of}
use Rattle.orca_board.proofs.SpanLemmas.{outside_right, peek_beyond, peek_cell, still}
use Rattle.orca_board.proofs.field.Field.right.Goals as goal

pub returns-then-at : goal.returns-then-at
returns-then-at c =
    rw (← c.self.view_is) (peek_beyond (slate_of c.self.inside).scan (right c.args.at 1) c.args.at.y
    MAX_COLUMNS c.self.invariant.lists.slate.state.sheet.size (still c.args.at.y)
    (ap (λ (k : ℕ). pos (k + 1)) c.if-at.true) (outside_right c.args.at.y))

pub returns : goal.returns
returns c =
    let inside = rw (← c.self.view_is) at c.requires in
    let size = c.self.invariant.lists.slate.state.sheet.size in
    let number =
    c.index-i.ensures.index ∙ ap (λ (d : Size). index_of d c.args.at) c.largest.ensures in
    rw (← c.self.view_is)
    (peek_cell (slate_of c.self.inside).scan c.self.inside.cells.items (right c.args.at 1)
    c.args.at.y (c.args.at.x + 1) _ c.index.result.now size refl c.self.invariant.outside
    c.self.invariant.whole
    (still c.args.at.y) refl (omega (arith, inside.row, size.few_rows))
    (omega (arith, inside.column, size.few_columns, c.if-at.false))
    (omega (arith, number, c.if-at.false)) c.index.ensures)

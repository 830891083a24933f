use Rattle.std.proofs.Common.{arith, ap, refl, ◌∙◌}
use Rattle.orca_base.specs.Grids.{Size, below, index_of}
use Rattle.std.specs.Prelude.{ℕ, pos, ◌+◌}
use Rattle.orca_base.specs.declared.limits.TheConstants.{MAX_ROWS}
use Rattle.orca_board.specs.Board.{slate_of}
use Rattle.orca_board.proofs.SpanLemmas.{outside_below, peek_beyond, peek_cell, still}
use Rattle.orca_board.proofs.field.Field.below.Goals as goal

pub returns-then-at : goal.returns-then-at
returns-then-at c =
    rw (← c.self.view_is) (peek_beyond (slate_of c.self.inside).scan (below c.args.at) MAX_ROWS
    c.args.at.x c.self.invariant.lists.slate.state.sheet.size
    (ap (λ (k : ℕ). pos (k + 1)) c.if-at.true) (still c.args.at.x) (outside_below c.args.at.x))

pub returns : goal.returns
returns c =
    let inside = rw (← c.self.view_is) at c.requires in
    let size = c.self.invariant.lists.slate.state.sheet.size in
    let number =
    c.index-i.ensures.index ∙ ap (λ (d : Size). index_of d c.args.at) c.largest.ensures in
    rw (← c.self.view_is)
    (peek_cell (slate_of c.self.inside).scan c.self.inside.cells.items (below c.args.at)
    (c.args.at.y + 1) c.args.at.x _ c.index.result.now size refl c.self.invariant.outside
    c.self.invariant.whole
    refl (still c.args.at.x) (omega (arith, inside.row, size.few_rows, c.if-at.false))
    (omega (arith, inside.column, size.few_columns))
    (omega (arith, number, c.if-at.false, c.from.ensures)) c.index.ensures)

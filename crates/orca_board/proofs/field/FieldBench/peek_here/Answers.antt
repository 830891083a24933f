use Rattle.orca_board.proofs.BoardLemmas.{read-cell}
use Rattle.orca_board.proofs.field.FieldBench.peek_here.Goals as goal

pub returns-clause-glyph : goal.returns-clause-glyph
returns-clause-glyph g c =
    rw (← c.self.view_is)
    (read-cell c.self.inside.dims c.largest.result c.self.inside.cells.items c.args.at
    c.index.result c.index-2.result.now (rw (← c.self.view_is) at c.requires)
    c.largest.ensures c.index.ensures.index c.index.ensures.most c.self.invariant.whole
    c.index-2.ensures)

use Rattle.orca_grid.proofs.Printing.{cell-more}
use Rattle.orca_grid.proofs.print.push_row.Goals as goal

pub loop-x-preserved : goal.loop-x-preserved
loop-x-preserved g c =
    rw (c.in_ok-push.ensures.items, c.byte.ensures.byte, c.glyph_at.ensures)
    (cell-more _ _ c.loop-x.into.items c.loop-x.x c.loop-x.invariant)

use Rattle.std.proofs.Common.{◌≡◌, arith, ap}
use Rattle.orca_base.specs.Grids.{Size}
use Rattle.orca_board.proofs.BoardLemmas.{off-cells}
use Rattle.orca_board.proofs.RowLemmas.{empty-rows}
use Rattle.orca_board.proofs.field.wipe.Goals as goal

pub returns-clause-empty : goal.returns-clause-empty
returns-clause-empty c =
    let rows : c.dims.inside.h ≡ c.args.dims.h = ap (λ (d : Size). d.h) c.dims.view_is in
    empty-rows c.args.dims c.loop-row.cells c.loop-row.row
    (omega (arith, rows, c.from-row-end.ensures, c.loop-row-test.false)) c.loop-row.invariant.rows
    c.loop-row.invariant.outside

pub returns-clause-off : goal.returns-clause-off
returns-clause-off c =
    let rows : c.dims.inside.h ≡ c.args.dims.h = ap (λ (d : Size). d.h) c.dims.view_is in
    off-cells c.loop-row.cells c.loop-row.live c.loop-row.invariant.live
    (empty-rows c.args.dims c.loop-row.cells c.loop-row.row
    (omega (arith, rows, c.from-row-end.ensures, c.loop-row-test.false)) c.loop-row.invariant.rows
    c.loop-row.invariant.outside)

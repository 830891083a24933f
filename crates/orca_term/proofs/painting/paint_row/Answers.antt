use Rattle.std.proofs.Common.{◌+◌, ◌∷◌, refl, arith}
use Rattle.std.specs.Fmt.{decimal}
use Rattle.orca_term.specs.Forms.{bytes_of}
use Rattle.orca_term.specs.Codes.{introducer}
use Rattle.orca_term.specs.Painting.{painted_cells}
use Rattle.orca_term.proofs.PaintingBytes.{plain_bytes, cell_more, cells_all, painted_row-bytes, joined}
use Rattle.orca_term.proofs.painting.paint_row.Goals as goal

pub loop-cell-init : goal.loop-cell-init
loop-cell-init c = record { bytes = refl; short = omega arith; room = omega arith }

pub loop-cell-preserved : goal.loop-cell-preserved
loop-cell-preserved c = record {
  bytes =
      rw (c.push_reserved.ensures.items, c.restyle.ensures.style)
      (cell_more c.loop-cell.style c.args.cells.now c.loop-cell.cell-index _ c.loop-cell.bytes.items
      _ (omega arith) c.loop-cell.invariant.bytes);
  short = omega arith;
  room = omega arith;
}

pub returns-clause-row : goal.returns-clause-row
returns-clause-row c =
    let all =
    cells_all c.loop-cell.style c.args.cells.now c.loop-cell.cell-index c.loop-cell.bytes.items
    _ (omega arith) c.loop-cell.invariant.bytes in
    rw (
      all,
      c.push_all-2.ensures.bytes,
      c.push_number.ensures.number,
      c.push_all.ensures.bytes,
      c.from.ensures,
      painted_row-bytes c.args.y c.args.cells.now,
    )
    (joined c.args.bytes.now.items introducer (decimal (c.args.y + 1)) (59 ∷ 49 ∷ 72 ∷ plain_bytes)
    (bytes_of (painted_cells 0 c.args.cells.now)))

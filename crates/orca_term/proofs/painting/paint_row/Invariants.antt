use Rattle.std.proofs.Common.{◌≡◌, ◌+◌, ◌*◌, ◌≤◌, ◌++◌, drop}
use Rattle.std.specs.Vec.{vec_len, vec_capacity}
use Rattle.orca_term.specs.Forms.{bytes_of}
use Rattle.orca_term.specs.Painting.{painted_cells}
use Rattle.orca_term.specs.declared.limits.TheConstants.{ROW_BYTES, CELL_BYTES}
use Rattle.orca_term.proofs.painting.paint_row.Given as goal

-- the bytes so far, and those of the cells that are left, are those of the row
abbrev pub invariant-loop-cell : goal.invariant-loop-cell
invariant-loop-cell l = record {
  bytes : l.bytes.items ++ bytes_of (painted_cells l.style (drop l.cell-index l.cells))
      ≡ l.initial.bytes.items ++ bytes_of (painted_cells 0 l.cells);
  short : vec_len l.bytes ≤ vec_len l.fn.bytes + ROW_BYTES + CELL_BYTES * l.cell-index;
  room : vec_capacity l.bytes ≡ vec_capacity l.fn.bytes;
}

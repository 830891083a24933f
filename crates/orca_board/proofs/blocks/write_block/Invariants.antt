use Rattle.std.proofs.Common.{◌≡◌, ◌+◌, ◌*◌}
use Rattle.orca_base.specs.Areas.{corner_of}
use Rattle.orca_op.specs.Slate.{slate_after_all}
use Rattle.orca_board.specs.Blocks.{write_each, rows_of_width, glyph_from}
use Rattle.orca_board.proofs.RunLemmas.{first_rows}
use Rattle.orca_board.proofs.blocks.write_block.Given as goal

-- the first rows are written
abbrev pub invariant-loop-row : goal.invariant-loop-row
invariant-loop-row g l = record {
  slate : g.B.Bench.slate l.bench ≡ slate_after_all (g.B.Bench.slate l.initial.bench)
      (write_each (glyph_from (rows_of_width l.width l.cells) (corner_of l.area))
      (first_rows l.area l.row));
  steps : l.steps ≡ l.initial.steps + l.row * l.area.w;
}

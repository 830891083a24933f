use Rattle.std.proofs.Common.{◌≡◌, ◌+◌, ◌*◌}
use Rattle.orca_op.specs.Slate.{slate_after_all}
use Rattle.orca_board.specs.Blocks.{write_each}
use Rattle.orca_board.proofs.RunLemmas.{first_rows}
use Rattle.orca_board.proofs.blocks.fill.Given as goal

-- the first rows are written
abbrev pub invariant-loop-row : goal.invariant-loop-row
invariant-loop-row g l = record {
  slate : g.B.Bench.slate l.bench
      ≡ slate_after_all (g.B.Bench.slate l.initial.bench)
      (write_each (λ at. l.glyph) (first_rows l.area l.row));
  steps : l.steps ≡ l.initial.steps + l.row * l.area.w;
}

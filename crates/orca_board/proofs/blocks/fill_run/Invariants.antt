use Rattle.std.proofs.Common.{◌≡◌, ◌+◌}
use Rattle.orca_op.specs.Slate.{slate_after_all}
use Rattle.orca_board.specs.Blocks.{row_run, write_each}
use Rattle.orca_board.proofs.blocks.fill_run.Given as goal

-- the first places are written
abbrev pub invariant-loop-i : goal.invariant-loop-i
invariant-loop-i g l = record {
  slate : g.B.Bench.slate l.bench
      ≡ slate_after_all (g.B.Bench.slate l.initial.bench)
      (write_each (λ place. l.glyph) (row_run l.at l.i));
  steps : l.steps ≡ l.initial.steps + l.i;
}

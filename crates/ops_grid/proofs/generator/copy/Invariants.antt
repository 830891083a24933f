use Rattle.std.proofs.Common.{◌≡◌, ◌+◌, ◌*◌}
use Rattle.orca_op.specs.Deeds.{each_below}
use Rattle.orca_op.specs.Slate.{slate_after_all}
use Rattle.ops_grid.specs.Each.{copy_at}
use Rattle.ops_grid.proofs.generator.copy.Given as goal

-- the places that were passed are done
abbrev pub invariant-loop-i : goal.invariant-loop-i
invariant-loop-i g l = record {
  deeds : g.B.Bench.slate l.bench ≡ slate_after_all (g.B.Bench.slate l.initial.bench)
      (each_below l.i (copy_at (g.B.Bench.slate l.initial.bench).scan l.at l.y l.x));
  steps : l.steps ≡ l.initial.steps + 2 * l.i;
}

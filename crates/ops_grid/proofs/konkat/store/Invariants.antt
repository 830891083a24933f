use Rattle.std.proofs.Common.{◌≡◌, ◌+◌, ◌*◌, ◌≤◌}
use Rattle.orca_op.specs.Deeds.{each_below}
use Rattle.orca_op.specs.Slate.{slate_after_all}
use Rattle.ops_grid.specs.Each.{store_at}
use Rattle.ops_grid.proofs.konkat.store.Given as goal

-- the places that were passed are done
abbrev pub invariant-loop-i : goal.invariant-loop-i
invariant-loop-i g l = record {
  deeds : g.B.Bench.slate l.bench ≡ slate_after_all (g.B.Bench.slate l.initial.bench)
      (each_below l.i (store_at (g.B.Bench.slate l.initial.bench).scan l.at));
  steps : l.steps ≤ l.initial.steps + 4 * l.i;
  later : l.initial.steps ≤ l.steps;
}

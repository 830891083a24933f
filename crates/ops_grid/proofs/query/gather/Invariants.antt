use Rattle.std.proofs.Common.{◌≡◌, ◌+◌, ◌*◌, slice_index}
use Rattle.orca_op.specs.Deeds.{each_below}
use Rattle.orca_op.specs.Slate.{slate_after_all}
use Rattle.ops_grid.specs.Each.{gather_one}
use Rattle.ops_grid.proofs.query.gather.Given as goal

abbrev pub invariant-loop-i : goal.invariant-loop-i
invariant-loop-i g l = record {
  deeds : g.B.Bench.slate l.bench
      ≡ slate_after_all (g.B.Bench.slate l.initial.bench)
      (each_below l.i (λ i. gather_one l.at l.length i (slice_index l.operands i)));
  steps : l.steps ≡ l.initial.steps + 2 * l.i;
}

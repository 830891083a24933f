use Rattle.std.proofs.Common.{arith}
use Rattle.ops_grid.proofs.RowLemmas.{store_more}
use Rattle.ops_grid.proofs.konkat.store.Goals as goal

pub loop-i-preserved : goal.loop-i-preserved
loop-i-preserved g c = record {
  deeds = store_more _ _ _ c.args.at c.loop-i.i c.loop-i.invariant.deeds
      c.write_below.ensures.deeds;
  steps = omega arith;
  later = omega arith;
}

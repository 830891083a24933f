use Rattle.std.proofs.Common.{arith, rules}
use Rattle.ops_grid.proofs.RowLemmas.{copy_more}
use Rattle.ops_grid.proofs.generator.copy.Goals as goal

pub loop-i-preserved : goal.loop-i-preserved
loop-i-preserved g c = record {
  deeds = copy_more _ _ _ c.args.at c.args.y c.args.x c.loop-i.i c.loop-i.invariant.deeds
      (search rules);
  steps = omega arith;
}

use Rattle.std.proofs.Common.{arith}
use Rattle.std.proofs.lemmas.Grind.{common_steps}
use Rattle.orca_op.proofs.LawFacts.{slate_after_all-each_more}
use Rattle.ops_grid.proofs.query.gather.Goals as goal

pub loop-i-preserved : goal.loop-i-preserved
loop-i-preserved g c = record {
  deeds = rw slate_after_all-each_more (grind (arith, common_steps));
  steps = omega arith;
}

use Rattle.std.proofs.Common.{arith, rules}
use Rattle.orca_op.proofs.LawFacts.{slate_after_all-each_more}
use Rattle.ops_motion.proofs.chain.sleep_chain.Goals as goal

pub loop-passed-preserved : goal.loop-passed-preserved
loop-passed-preserved g c = record {
  deeds = rw slate_after_all-each_more (search rules);
  steps = omega arith;
}

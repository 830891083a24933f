use Rattle.std.proofs.Common.{arith, rules}
use Rattle.orca_op.proofs.LawFacts.{slate_after_all-each_more}
use Rattle.orca_op.proofs.bench.Bench.mark_span.Goals as goal

pub loop-i-preserved : goal.loop-i-preserved
unfolding Rattle.orca_op.specs.Deeds.after
loop-i-preserved g c = record {
  deeds = rw slate_after_all-each_more (search rules);
  room = λ before. rw c.mark.ensures.deed (c.loop-i.invariant.room before);
  steps = omega arith;
}

use Rattle.std.proofs.Common.{◌≡◌, ◌+◌}
use Rattle.orca_op.specs.Slate.{slate_after_all}
use Rattle.orca_op.specs.MotionRules.{sleep_deeds}
use Rattle.ops_motion.specs.Ways.{beyond_on}
use Rattle.ops_motion.proofs.chain.sleep_chain.Given as goal

-- the places that were passed sleep
abbrev pub invariant-loop-passed : goal.invariant-loop-passed
invariant-loop-passed g l = record {
  deeds : g.B.Bench.slate l.bench ≡ slate_after_all (g.B.Bench.slate l.initial.bench)
      (sleep_deeds (beyond_on l.way l.at) l.passed);
  steps : l.steps ≡ l.initial.steps + l.passed;
}

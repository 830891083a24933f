use Rattle.std.proofs.Common.{◌≡◌, ◌+◌, ◌≤◌, ◌<◌, ℕ, false}
use Rattle.std.specs.Prelude.{◌==◌, not}
use Rattle.orca_op.specs.State.{peek}
use Rattle.ops_motion.specs.Ways.{beyond_on}
use Rattle.ops_motion.proofs.chain.chain_end.Given as goal

-- the places before hold the glyph, and each was looked at once
abbrev pub invariant-loop-places : goal.invariant-loop-places
invariant-loop-places g l = record {
  same : (k : ℕ) → 1 ≤ k → k < l.places
      → not (peek (g.B.Bench.slate l.bench).scan (beyond_on l.way l.at k) == l.glyph) ≡ false;
  steps : l.steps + 1 ≡ l.initial.steps + l.places;
}

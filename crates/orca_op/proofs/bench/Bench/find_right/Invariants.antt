use Rattle.std.proofs.Common.{◌≡◌, ◌+◌, ◌≤◌, ◌<◌, ℕ, false}
use Rattle.std.specs.Prelude.{◌==◌}
use Rattle.orca_base.specs.Grids.{right}
use Rattle.orca_op.specs.State.{peek}
use Rattle.orca_op.proofs.bench.Bench.find_right.Given as goal

-- no column before this one holds the glyph, and each was looked at once
abbrev pub invariant-loop-column : goal.invariant-loop-column
invariant-loop-column g l = record {
  none : (k : ℕ) → 1 ≤ k → k < l.column
      → (peek (g.Self.Bench.slate l.self).scan (right l.at k) == l.byte) ≡ false;
  few : l.column ≤ l.reach + 1;
  steps : l.steps + 1 ≡ l.initial.steps + l.column;
}

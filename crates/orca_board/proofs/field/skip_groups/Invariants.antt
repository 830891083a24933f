use Rattle.std.proofs.Common.{◌≡◌, ◌+◌, ◌*◌, ◌<◌, ◌≤◌, ◌==◌, ℕ, false}
use Rattle.std.specs.Prelude.{slice_index}
use Rattle.orca_board.specs.declared.field.TheConstants.{GROUP}
use Rattle.orca_board.proofs.field.skip_groups.Given as goal

-- no cell of the groups so far holds the byte
abbrev pub invariant-loop-group : goal.invariant-loop-group
invariant-loop-group g l = record {
  none : (k : ℕ) → 1 ≤ k → k < 1 + l.group * GROUP
      → (slice_index l.cells (l.first + k) == l.byte) ≡ false;
  steps : l.steps ≡ l.initial.steps + l.group * GROUP;
}

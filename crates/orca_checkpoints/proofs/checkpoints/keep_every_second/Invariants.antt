use Rattle.std.proofs.Common.{ℕ, ◌≡◌, ◌+◌, ◌*◌, ◌<◌, ◌≤◌, length}
use Rattle.std.specs.Prelude.{slice_index_or}
use Rattle.orca_base.specs.declared.limits.TheConstants.{MAX_CHECKPOINTS}
use Rattle.orca_checkpoints.specs.Points.{Point}
use Rattle.orca_checkpoints.proofs.checkpoints.keep_every_second.Given as goal

-- the first places have every second slot, and the last ones are as before
abbrev pub invariant-loop-k : goal.invariant-loop-k
invariant-loop-k l = record {
  all : length l.slots.items ≡ MAX_CHECKPOINTS;
  moved : (j : ℕ) (d : Point) → j < l.k
      → slice_index_or l.slots.items j d ≡ slice_index_or l.initial.slots.items (2 * j) d;
  rest : (j : ℕ) (d : Point) → 2 * l.k ≤ j + 1
      → slice_index_or l.slots.items j d ≡ slice_index_or l.initial.slots.items j d;
}

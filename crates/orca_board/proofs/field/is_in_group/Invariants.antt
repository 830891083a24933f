use Rattle.std.proofs.Common.{◌≡◌, ◌+◌, ◌<◌, ◌==◌, ℕ, false}
use Rattle.std.specs.Prelude.{slice_index}
use Rattle.orca_board.proofs.field.is_in_group.Given as goal

-- if nothing was found, no cell so far holds the byte
abbrev pub invariant-loop-k : goal.invariant-loop-k
invariant-loop-k l = l.found ≡ false
    → (j : ℕ) → j < l.k → (slice_index l.cells (l.first + j) == l.byte) ≡ false

use Rattle.std.proofs.Common.{◌≡◌, ◌+◌, ◌<◌, ℕ, pos, slice_index}
use Rattle.orca_base.specs.Grids.{off}
use Rattle.orca_op.specs.State.{peek}
use Rattle.ops_grid.proofs.span.read.Given as goal

abbrev pub invariant-loop-i : goal.invariant-loop-i
invariant-loop-i g l = record {
  glyphs : (k : ℕ) → k < l.i → slice_index l.glyphs k ≡ peek (g.B.Bench.slate l.bench).scan
      (off l.at (pos l.span.y) (pos (k + l.span.x)));
  steps : l.steps ≡ l.initial.steps + l.i;
}

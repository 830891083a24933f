use Rattle.std.proofs.Common.{◌≡◌}
use Rattle.grid_tests.proofs.patches.change.Given as goal

abbrev pub invariant-loop-size : goal.invariant-loop-size
invariant-loop-size g l = l.dims ≡ l.board.began.dims

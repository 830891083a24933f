use Rattle.std.proofs.Common.{◌≡◌, ◌+◌}
use Rattle.orca_board.proofs.plain_board.count_changes.Given as goal

-- a step for each change so far
abbrev pub invariant-loop-change : goal.invariant-loop-change
invariant-loop-change g l = l.steps ≡ l.initial.steps + l._change-index

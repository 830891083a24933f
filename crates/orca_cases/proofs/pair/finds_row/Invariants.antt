use Rattle.std.proofs.Common.{◌≤◌}
use Rattle.orca_cases.proofs.pair.finds_row.Given as goal

-- the walk goes on at the column, or before it
abbrev pub invariant-loop-x : goal.invariant-loop-x
invariant-loop-x g l = l.from ≤ l.x

use Rattle.std.proofs.Common.{◌≡◌, ◌≤◌}
use Rattle.orca_jam.specs.Crews.{last_own, own_edit}
use Rattle.orca_jam.proofs.crew.Crew.own_edit.Given as goal

-- none of the entries from `end` on is one
abbrev pub invariant-loop-left : goal.invariant-loop-left
invariant-loop-left g l = record {
  within : l.left ≤ l.end;
  own : own_edit l.self l.hand (g.M.Machine.machine l.machine).history
      ≡ last_own l.self l.hand (g.M.Machine.machine l.machine).history l.end l.left;
}

abbrev pub decreases-loop-left : goal.decreases-loop-left
decreases-loop-left g l = l.left

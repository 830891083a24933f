use Rattle.std.proofs.Common.{◌≡◌, ◌≤◌, length, take}
use Rattle.orca_cues.specs.Rooms.{whole_lines}
use Rattle.orca_cues.proofs.rooms.whole_lines.Given as goal

abbrev pub invariant-loop-end : goal.invariant-loop-end
invariant-loop-end l = record {
  within : l.end ≤ length l.text;
  same : whole_lines (take l.end l.text) ≡ whole_lines l.text;
}

abbrev pub decreases-loop-end : goal.decreases-loop-end
decreases-loop-end l = l.end

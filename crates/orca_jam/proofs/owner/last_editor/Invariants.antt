use Rattle.std.proofs.Common.{◌≡◌, ◌≤◌, length, take}
use Rattle.orca_jam.specs.Owners.{last_editor}
use Rattle.orca_jam.proofs.owner.last_editor.Given as goal

-- the last edit stands among the first entries
abbrev pub invariant-loop-end : goal.invariant-loop-end
invariant-loop-end l = record {
  within : l.end ≤ length l.owners;
  last : last_editor l.owners ≡ last_editor (take l.end l.owners);
}

abbrev pub decreases-loop-end : goal.decreases-loop-end
decreases-loop-end l = l.end

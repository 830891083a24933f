use Rattle.std.proofs.Common.{◌≡◌, ◌≤◌, length, take}
use Rattle.orca_base.specs.Histories.{last_edit}
use Rattle.orca_history.proofs.entries.Entries.last_edit.Given as goal

-- the last edit stands among the first entries
abbrev pub invariant-loop-end : goal.invariant-loop-end
invariant-loop-end l = record {
  within : l.end ≤ length l.self-inside.done.items;
  last : last_edit l.self-inside.done.items
      ≡ last_edit (take l.end l.self-inside.done.items);
}

abbrev pub decreases-loop-end : goal.decreases-loop-end
decreases-loop-end l = l.end

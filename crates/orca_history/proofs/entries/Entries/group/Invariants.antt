use Rattle.std.proofs.Common.{◌≡◌, ◌+◌, ◌-◌, ◌≤◌, length, drop, reverse}
use Rattle.std.specs.Prelude.{not, take_while}
use Rattle.orca_base.specs.Histories.{group_of, is_edit}
use Rattle.orca_history.proofs.entries.Entries.group.Given as goal

-- so many entries come back, and those after them up to the next edit
abbrev pub invariant-loop-group : goal.invariant-loop-group
invariant-loop-group l = record {
  some : 1 ≤ l.group;
  within : l.group ≤ length l.self-inside.undone.items;
  group : group_of (reverse l.self-inside.undone.items)
      ≡ l.group + length (take_while (λ e. not (is_edit e))
      (drop l.group (reverse l.self-inside.undone.items)));
}

abbrev pub decreases-loop-group : goal.decreases-loop-group
decreases-loop-group l = length l.self-inside.undone.items - l.group

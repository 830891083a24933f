use Rattle.std.proofs.Common.{◌≡◌, ◌+◌, ◌≤◌, ◌++◌, length, take, drop, reverse, vec_len, vec_capacity}
use Rattle.orca_base.specs.Histories.{done_of}
use Rattle.orca_history.proofs.entries.cut.Given as goal

-- the first entries are left, and the others are cut off
abbrev pub invariant-loop-done : goal.invariant-loop-done
invariant-loop-done l = record {
  above : l.moment ≤ vec_len l.done;
  within : vec_len l.done ≤ length l.initial.done.items;
  left : l.done.items ≡ take (vec_len l.done) l.initial.done.items;
  cut : reverse l.undone.items
      ≡ done_of (drop (vec_len l.done) l.initial.done.items) ++ reverse l.initial.undone.items;
  room : length (done_of l.done.items) + vec_len l.undone ≤ vec_capacity l.undone;
  done_room : vec_capacity l.done ≡ vec_capacity l.initial.done;
  undone_room : vec_capacity l.undone ≡ vec_capacity l.initial.undone;
}

abbrev pub decreases-loop-done : goal.decreases-loop-done
decreases-loop-done l = vec_len l.done

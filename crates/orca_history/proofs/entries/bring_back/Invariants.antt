use Rattle.std.proofs.Common.{◌≡◌, ◌+◌, ◌++◌, take, drop, reverse, vec_len, vec_capacity}
use Rattle.orca_history.proofs.entries.bring_back.Given as goal

-- the first entries of the tail came back
abbrev pub invariant-loop-back : goal.invariant-loop-back
invariant-loop-back l = record {
  done : l.done.items ≡ l.initial.done.items ++ take l.back (reverse l.initial.undone.items);
  undone : reverse l.undone.items ≡ drop l.back (reverse l.initial.undone.items);
  done_len : vec_len l.done ≡ vec_len l.initial.done + l.back;
  undone_len : vec_len l.undone + l.back ≡ vec_len l.initial.undone;
  done_room : vec_capacity l.done ≡ vec_capacity l.initial.done;
  undone_room : vec_capacity l.undone ≡ vec_capacity l.initial.undone;
}

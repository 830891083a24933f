use Rattle.std.proofs.Common.{◌≡◌, ◌+◌, ◌++◌, ◌≤◌, length, take}
use Rattle.orca_notes.specs.Sound.{ends}
use Rattle.orca_notes.proofs.ending.say_all_ends.Given as goal

-- the ends of the notes so far are said
abbrev pub invariant-loop-sounding : goal.invariant-loop-sounding
invariant-loop-sounding l = record {
  said : l.messages ≡ l.fn.messages ++ ends (take l.sounding-index l.notes);
  few : length l.messages ≤ length l.fn.messages + l.sounding-index;
}

use Rattle.std.proofs.Common.{◌≡◌, ◌+◌, ◌++◌, ◌≤◌, length, filter, take, not, false}
use Rattle.orca_notes.specs.Sound.{ends}
use Rattle.orca_notes.specs.Ending.{takes}
use Rattle.orca_notes.proofs.ending.Ending.say_ends.Given as goal

-- the ends of those taken so far are said, which are no more than were looked at; where there is
-- none, all so far are kept
abbrev pub invariant-loop-note : goal.invariant-loop-note
invariant-loop-note l = record {
  said : l.messages ≡ l.fn.messages ++ ends (filter (takes l.self) (take l.note-index l.notes));
  none :
      l.some ≡ false
      → filter (λ note. not (takes l.self note)) (take l.note-index l.notes)
      ≡ take l.note-index l.notes;
  few : length l.messages ≤ length l.fn.messages + l.note-index;
}

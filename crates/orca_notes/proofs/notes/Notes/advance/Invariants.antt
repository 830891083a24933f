use Rattle.std.proofs.Common.{◌≡◌, ◌+◌, ◌*◌, ◌≤◌, [], length, take}
use Rattle.std.specs.List.{fold}
use Rattle.orca_base.specs.declared.limits.TheConstants.{MAX_NOTES}
use Rattle.orca_notes.specs.Sound.{sounds_of, is_due, note_stop, happens}
use Rattle.orca_notes.proofs.notes.Notes.advance.Given as goal

-- the events so far have happened, and none has given more than two messages or a note for one
abbrev pub invariant-loop-event : goal.invariant-loop-event
invariant-loop-event l = record {
  same :
      sounds_of l.self l.messages
      ≡ fold (happens l.fn.tick) (note_stop (is_due l.fn.tick) (sounds_of l.fn.self []))
      (take l.event-index l.events);
  few : length l.self + length l.messages ≤ MAX_NOTES + 2 * l.event-index;
}

use Rattle.orca_notes.proofs.Chords.{IsChord-nil}
use Rattle.orca_notes.proofs.notes.Notes.start.Goals as goal

-- no notes are a chord
pub invariant_of-result : goal.invariant_of-result
invariant_of-result c = (rw c.in_ok-list.ensures.items IsChord-nil, c.in_ok-list.ensures.capacity)

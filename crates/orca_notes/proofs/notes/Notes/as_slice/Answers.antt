use Rattle.orca_notes.proofs.Chords.{length-IsChord}
use Rattle.orca_notes.proofs.notes.Notes.as_slice.Goals as goal

pub returns-clause-few : goal.returns-clause-few
returns-clause-few c = rw (← c.self.view_is) (length-IsChord _ c.self.invariant.0)

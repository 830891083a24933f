-- Which of the sounding notes end.
use Rattle.std.specs.Prelude.{Bool}
use Rattle.orca_base.specs.declared.note.Note.{Note}
use Rattle.orca_notes.specs.declared.ending.Ending.{Ending}
use Rattle.orca_notes.specs.declared.ending.Ending.TheVariants.{DueAt, OnChannel, OfKey}
use Rattle.orca_notes.specs.Sound.{is_due, is_on_channel, is_of_key}

-- the ending takes the note
abbrev pub takes : Ending → Note → Bool
takes (DueAt tick) note = is_due tick note
takes (OnChannel channel) note = is_on_channel channel note
takes (OfKey channel key) note = is_of_key channel key note

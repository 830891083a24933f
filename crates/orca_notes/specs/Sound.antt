-- Sustained notes: events start notes, and a note ends when it is due or cut off. Each note that
-- ends gives its Off.
use Rattle.std.specs.Prelude.{ℕ, ◌+◌, Bool, not, ◌&&◌, ◌==◌, nat_le, if◌then◌else◌, List, [], ◌∷◌, ◌++◌, map, filter, fold}
use Rattle.orca_base.specs.declared.note.Note.{Note}
use Rattle.orca_base.specs.declared.event.Event.{Event}
use Rattle.orca_base.specs.declared.event.Event.TheVariants as event
use Rattle.orca_base.specs.declared.message.Message.{Message}
use Rattle.orca_base.specs.declared.message.Message.TheVariants as message

-- the notes that sound, in the order in which they started, and the messages so far
pub record Sounds : Type 0 where
  pub notes : List Note
  pub messages : List Message

abbrev pub sounds_of : List Note → List Message → Sounds
sounds_of notes messages = record { notes = notes; messages = messages }

-- the note is due at this tick
abbrev pub is_due : ℕ → Note → Bool
is_due tick note = nat_le note.due tick

-- it is a note of the channel
abbrev pub is_on_channel : ℕ → Note → Bool
is_on_channel channel note = note.channel == channel

-- it is the note of this channel and key
abbrev pub is_of_key : ℕ → ℕ → Note → Bool
is_of_key channel key note = note.channel == channel && note.key == key

-- the note ends before one of this channel and key starts: with mono every note of the channel, and
-- else the same key
abbrev pub is_cut_by : ℕ → ℕ → Bool → Note → Bool
is_cut_by channel key mono note =
    if mono then is_on_channel channel note else is_of_key channel key note

-- one Off for each note, in their order
abbrev pub ends : List Note → List Message
ends notes = map (λ note. message.Off note.channel note.key) notes

-- the notes that pass the test end, and leave the list
abbrev pub note_stop : (Note → Bool) → Sounds → Sounds
note_stop test s = record {
  notes = filter (λ note. not (test note)) s.notes;
  messages = s.messages ++ ends (filter test s.notes);
}

-- a note starts: it gives its On, and stands last
abbrev pub note_start : Note → ℕ → Sounds → Sounds
note_start note velocity s = record {
  notes = s.notes ++ note ∷ [];
  messages = s.messages ++ message.On note.channel note.key velocity ∷ [];
}

-- a message is given, and no note changes
abbrev pub say : Message → Sounds → Sounds
say m s = record { notes = s.notes; messages = s.messages ++ m ∷ [] }

-- what an event does at a tick. A note first ends those that it cuts off
unfoldable pub happens : ℕ → Sounds → Event → Sounds
happens tick s (event.Note channel key velocity length mono) =
    let note : Note = record { channel = channel; key = key; due = tick + length } in
    note_start note velocity (note_stop (is_cut_by channel key mono) s)
happens tick s (event.Control channel control value) =
    say (message.Control channel control value) s
happens tick s (event.Bend channel lsb msb) = say (message.Bend channel lsb msb) s
happens tick s (event.Udp text) = say (message.Udp text) s
happens tick s (event.Osc path values) = say (message.Osc path values) s

-- a frame: the notes that are due end, and then the events happen in order
unfoldable pub sound : List Note → ℕ → List Event → Sounds
sound notes tick events = fold (happens tick) (note_stop (is_due tick) (sounds_of notes [])) events

-- What messages in a row do to the notes, and what the ends of notes do.
use Rattle.std.proofs.Common.{Bool, true, false, not, ◌≡◌, List, [], ◌∷◌, ◌++◌, refl, ap, arith}
use Rattle.std.specs.List.{filter, All}
use Rattle.std.proofs.lemmas.List.Elements.{All-nil, All-append, All-map, All-filter, All-weaker}
use Rattle.orca_base.specs.declared.note.Note.{Note}
use Rattle.orca_base.specs.declared.message.Message.{Message}
use Rattle.orca_base.specs.declared.message.Message.TheVariants as message
use Rattle.orca_base.specs.Ranges.{IsSendable}
use Rattle.orca_notes.specs.Device.{voices, IsChord, Plays, midi_messages}
use Rattle.orca_notes.specs.Sound.{ends}
use Rattle.orca_notes.proofs.Chords.{IsNote, voices-in_range}
use Rattle.orca_notes.proofs.DeviceFacts.{Leads-none, Leads-append, midi-append}
use Rattle.orca_notes.proofs.Turns.{Leads-ends}

-- no messages leave the notes as they are
pub Plays-none : (notes : List Note) → Plays notes [] notes
unfolding midi_messages
Plays-none notes = record { keys = Leads-none (voices notes); sendable = All-nil IsSendable }

-- messages, and then others that go on where these lead
pub Plays-append : (before middle after : List Note) (xs ys : List Message)
    → Plays before xs middle → Plays middle ys after → Plays before (xs ++ ys) after
Plays-append before middle after xs ys first rest = record {
  keys =
      rw (midi-append xs ys)
      (Leads-append (voices before) (voices middle) (voices after) (midi_messages xs) (midi_messages ys)
      first.keys rest.keys);
  sendable = All-append IsSendable xs ys first.sendable rest.sendable;
}

off-sendable : (note : Note) → IsNote note → IsSendable (message.Off note.channel note.key)
off-sendable note low =
    record { channel_low = low.0; first_low = low.1; second_low = omega arith }

ends-sendable : (notes : List Note) → All IsNote notes → All IsSendable (ends notes)
ends-sendable notes low =
    let off_of : Note → Message = λ note. message.Off note.channel note.key in
    All-map IsSendable off_of notes
    (All-weaker IsNote (λ note. IsSendable (off_of note)) off-sendable notes low)

-- the ends of some notes of a chord leave the others
pub Plays-ends_of : (test : Note → Bool) (notes : List Note) → IsChord notes
    → Plays notes (ends (filter test notes)) (filter (λ note. not (test note)) notes)
Plays-ends_of test notes chord = record {
  keys = Leads-ends test notes (voices-in_range notes chord) chord.distinct;
  sendable = ends-sendable (filter test notes) (All-filter test IsNote notes chord.in_range);
}

filter-every : (notes : List Note) → filter (λ _. true) notes ≡ notes
filter-every [] = refl
filter-every (note ∷ notes) = ap (λ l. note ∷ l) (filter-every notes)

filter-none : (notes : List Note) → filter (λ (_ : Note). false) notes ≡ []
filter-none [] = refl
filter-none (note ∷ notes) = filter-none notes

-- the ends of all notes of a chord leave none
pub Plays-ends : (notes : List Note) → IsChord notes → Plays notes (ends notes) []
Plays-ends notes chord =
    let all = Plays-ends_of (λ _. true) notes chord in
    rw (filter-every notes, filter-none notes) at all

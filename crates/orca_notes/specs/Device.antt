-- A device that reads MIDI messages in order: which keys of which channels are on (MIDI 1.0, note
-- on and note off).
use Rattle.std.specs.Prelude.{◌≡◌, ℕ, ◌/◌, ◌%◌, ◌≤◌, Bool, true, false, not, ◌&&◌, ◌||◌, ◌==◌, if◌then◌else◌, List, [], ◌∷◌, ◌++◌, map, filter, fold, All}
use Rattle.std.specs.List.{list_any, filter_map, IsDistinct}
use Rattle.orca_base.specs.declared.limits.TheConstants.{MAX_CHANNEL, MAX_DATA}
use Rattle.orca_base.specs.declared.note.Note.{Note}
use Rattle.orca_base.specs.declared.message.Message.{Message}
use Rattle.orca_base.specs.MidiBytes.{midi_bytes_of}
use Rattle.orca_base.specs.Ranges.{IsSendable}

-- a key of a channel
pub record Voice : Type 0 where
  pub channel : ℕ
  pub key : ℕ

-- whether two are the same key of the same channel
abbrev pub is_same : Voice → Voice → Bool
is_same a b = a.channel == b.channel && a.key == b.key

-- the voice is among these
abbrev pub is_on : List Voice → Voice → Bool
is_on on voice = list_any (is_same voice) on

-- the channel and key of a note
abbrev pub voice_of : Note → Voice
voice_of note = record { channel = note.channel; key = note.key }

-- the channels and keys of notes, in their order
abbrev pub voices : List Note → List Voice
voices notes = map voice_of notes

-- notes that can sound together: their numbers are in range, and no two have the same channel and
-- key
pub record IsChord (notes : List Note) : Type 0 where
  pub in_range : All (λ note. (note.channel ≤ MAX_CHANNEL) × (note.key ≤ MAX_DATA)) notes
  pub distinct : IsDistinct is_same (voices notes)

-- what a MIDI message does to a device
pub data KeyEffect : Type 0 where
  Starts : (voice : Voice) → KeyEffect
  Ends : (voice : Voice) → KeyEffect
  Neither : KeyEffect

-- the high four bits of a status byte are 9 for note on and 8 for note off, and the low four are
-- the channel; a note on with velocity 0 is a note off
abbrev pub voice_turn : ℕ → ℕ → ℕ → KeyEffect
voice_turn status key velocity =
    let voice : Voice = record { channel = status % 16; key = key } in
    if status / 16 == 9 && not (velocity == 0) then Starts voice
    else (if status / 16 == 9 || status / 16 == 8 then Ends voice else Neither)

-- what the bytes of one message do; a message of one byte, F8 to FF, and all others do neither.
-- Only messages in range are modelled, and none of these is a channel mode message
abbrev pub effect_of : List ℕ → KeyEffect
effect_of (status ∷ key ∷ velocity ∷ []) = voice_turn status key velocity
effect_of _ = Neither

-- the keys without one that goes off
abbrev pub keys_without : List Voice → Voice → List Voice
keys_without on voice = filter (λ other. not (is_same voice other)) on

-- the keys that are on after a turn, the last one that went on being the last
unfoldable pub keys_after : List Voice → KeyEffect → List Voice
keys_after on (Starts voice) = keys_without on voice ++ voice ∷ []
keys_after on (Ends voice) = keys_without on voice
keys_after on Neither = on

-- the keys that are on after these messages
unfoldable pub device : List Voice → List (List ℕ) → List Voice
device on messages = fold (λ on message. keys_after on (effect_of message)) on messages

-- the turn starts no key that is on, and ends none that is off
abbrev pub Suits : List Voice → KeyEffect → Type 0
Suits on (Starts voice) = is_on on voice ≡ false
Suits on (Ends voice) = is_on on voice ≡ true
Suits on Neither = Unit {0}

-- no message starts a key that is on, or ends one that is off
unfoldable pub IsFair : List Voice → List (List ℕ) → Type 0
IsFair on [] = Unit {0}
IsFair on (message ∷ messages) =
    Suits on (effect_of message) × IsFair (keys_after on (effect_of message)) messages

-- the MIDI messages among these, in order
unfoldable pub midi_messages : List Message → List (List ℕ)
midi_messages messages = filter_map midi_bytes_of messages

-- a device whose keys that are on are these has exactly those on when it has read the messages, and
-- none of them starts a key that is on, or ends one that is off
pub record Leads (on : List Voice) (messages : List (List ℕ)) (after : List Voice) : Type 0 where
  pub device : device on messages ≡ after
  pub fair : IsFair on messages

-- the messages lead a device from the keys of the notes before to those of the notes after, and
-- each can be sent
pub record Plays (before : List Note) (messages : List Message) (after : List Note) : Type 0 where
  pub keys : Leads (voices before) (midi_messages messages) (voices after)
  pub sendable : All IsSendable messages

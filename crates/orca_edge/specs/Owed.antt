-- The ends of notes that a sink did not take, and the order in which they are sent.
use Rattle.std.specs.Prelude.{ℕ, ◌≡◌, ◌≤◌, ◌<◌, Bool, true, false, not, ◌&&◌, ◌||◌, ◌==◌, List, [], ◌++◌, slice_index}
use Rattle.std.specs.Int.{bit_at}
use Rattle.orca_base.specs.declared.limits.TheConstants.{MAX_CHANNEL, MAX_DATA}
use Rattle.orca_base.specs.MidiBytes.{note_off_bytes}
use Rattle.orca_notes.specs.Device.{KeyEffect, Starts, Ends, Neither, effect_of}
use Rattle.orca_edge.specs.declared.owed.Voice.{Voice}

-- a channel and a key of MIDI
pub record IsVoice (voice : Voice) : Type 0 where
  pub channel : voice.channel ≤ MAX_CHANNEL
  pub key : voice.key ≤ MAX_DATA

-- whether two are the same key of the same channel
abbrev pub is_one : Voice → Voice → Bool
is_one a b = a.channel == b.channel && a.key == b.key

-- whether the end of a voice is owed: the bit of its key, in the number of its channel
abbrev pub is_owed : List ℕ → Voice → Bool
is_owed owed voice = bit_at (slice_index owed voice.channel) voice.key == 1

-- no end is owed
abbrev pub OwesNone : List ℕ → Type 0
OwesNone owed = (voice : Voice) → IsVoice voice → is_owed owed voice ≡ false

-- whether a turn ends a voice
abbrev pub is_end_of : KeyEffect → Voice → Bool
is_end_of (Starts other) voice = false
is_end_of (Ends other) voice = other.channel == voice.channel && other.key == voice.key
is_end_of Neither voice = false

-- a message was not taken: the end that it is, if it is one, is owed too
abbrev pub IsMissed : List ℕ → List ℕ → List ℕ → Type 0
IsMissed before after bytes = (voice : Voice) → IsVoice voice
    → is_owed after voice ≡ (is_owed before voice || is_end_of (effect_of bytes) voice)

-- the end of a voice was taken, and is owed no more
abbrev pub IsPaid : List ℕ → List ℕ → Voice → Type 0
IsPaid before after voice = (other : Voice) → IsVoice other
    → is_owed after other ≡ (is_owed before other && not (is_one voice other))

-- the end that goes first: of the lowest channel that is owed one, that of the lowest key
pub record IsFirst (owed : List ℕ) (voice : Voice) : Type 0 where
  pub here : is_owed owed voice ≡ true
  pub range : IsVoice voice
  pub lower_channels : (other : Voice) → other.channel < voice.channel
      → is_owed owed other ≡ false
  pub lower_keys : (other : Voice) → other.channel ≡ voice.channel → other.key < voice.key
      → is_owed owed other ≡ false

-- ends that are sent one after another, the first of those that are owed each time: what was owed
-- before and after, and the bytes, a Note Off for each
pub data SendsEnds : List ℕ → List ℕ → List ℕ → Type 0 where
  none : (owed : List ℕ) → SendsEnds owed owed []
  more : (before owed after bytes : List ℕ) (voice : Voice) → SendsEnds before owed bytes
      → IsFirst owed voice → IsPaid owed after voice
      → SendsEnds before after (bytes ++ note_off_bytes voice.channel voice.key)

-- The samples of a run: each note is a square wave of its own, from its On to its Off.
use Rattle.std.specs.Prelude.{ℕ, ◌-◌, ◌*◌, ◌/◌, ◌%◌, ◌^◌, nat_lt, nat_le, Bool, false, ◌&&◌, ◌==◌, if◌then◌else◌, List, [], ◌∷◌, ◌++◌, map, filter, fold, slice_index}
use Rattle.std.specs.Prelude.{ℤ, pos, neg_ℤ, ◌+ℤ◌}
use Rattle.std.specs.Int.{w16, to_le_bytes, cast_unsigned, int_max, int_min}
use Rattle.std.specs.List.{list_any, flat_map, range_with_len}
use Rattle.orca_base.specs.declared.message.Message.{Message}
use Rattle.orca_base.specs.declared.message.Message.TheVariants as message
use Rattle.orca_wav.specs.declared.limits.TheConstants.{MAX_SAMPLE, OCTAVE_KEYS, PITCHES, PERIOD, HALF_PERIOD, VELOCITY_LEVEL}
use Rattle.orca_wav.specs.declared.voice.Voice.{Voice}

-- ---- the voices

-- a message, and how many samples the run had when it came
pub record TimedMessage : Type 0 where
  pub message : Message
  pub samples : ℕ

-- it is an Off of the channel and key
abbrev pub is_end : ℕ → ℕ → Message → Bool
is_end channel key (message.Off c k) = channel == c && key == k
is_end channel key _ = false

-- the voice of a message: an On that no later message ends is a voice from the next sample on
abbrev pub sounding_voice : Message → ℕ → List TimedMessage → List Voice
sounding_voice (message.On channel key velocity) samples later =
    if list_any (λ m. is_end channel key m.message) later then []
    else record { channel = channel; key = key; velocity = velocity; first = samples } ∷ []
sounding_voice _ samples later = []

-- the voices that there are after these messages
abbrev pub voices_of : List TimedMessage → List Voice
voices_of [] = []
voices_of (m ∷ later) = sounding_voice m.message m.samples later ++ voices_of later

-- ---- the samples

-- how much the phase of a key grows with each sample: its pitch, which doubles with each octave
unfoldable pub phase_step : ℕ → ℕ
phase_step key = slice_index PITCHES (key % OCTAVE_KEYS) * 2 ^ (key / OCTAVE_KEYS)

-- how far the voice is in its period at sample n of the run
abbrev pub phase_at : Voice → ℕ → ℕ
phase_at voice n = ((n - voice.first) * phase_step voice.key) % PERIOD

-- how far its wave is from zero
abbrev pub level : Voice → ℤ
level voice = pos (VELOCITY_LEVEL * voice.velocity)

-- its value at sample n: up in the first half of each period, and down in the second
abbrev pub value_at : ℕ → Voice → ℤ
value_at n voice =
    if nat_lt (phase_at voice n) HALF_PERIOD then level voice else neg_ℤ (level voice)

-- cut to what a sample can be
abbrev pub cut : ℤ → ℤ
cut z = int_max (neg_ℤ MAX_SAMPLE) (int_min z MAX_SAMPLE)

-- sample n: the sum over the voices
unfoldable pub sample_at : List Voice → ℕ → ℤ
sample_at voices n = cut (fold ◌+ℤ◌ (pos 0) (map (value_at n) voices))

-- the bytes of a sample: two's complement, the least significant byte first
abbrev pub sample_bytes : ℤ → List ℕ
sample_bytes z = to_le_bytes w16 (cast_unsigned w16 z)

-- ---- the run

-- the voices at sample n: those after the messages that came before it
abbrev pub voices_at : List TimedMessage → ℕ → List Voice
voices_at messages n = voices_of (filter (λ m. nat_le m.samples n) messages)

-- the bytes of the first `count` samples of a run with these messages
unfoldable pub run_bytes : List TimedMessage → ℕ → List ℕ
run_bytes messages count =
    flat_map (λ n. sample_bytes (sample_at (voices_at messages n) n)) (range_with_len 0 count)

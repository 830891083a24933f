-- The samples of a run as it goes on, message by message and sample by sample.
use Rattle.std.specs.Prelude.{◌≡◌, ℕ, ◌≤◌, Bool, true, false, not, ◌&&◌, ◌==◌, List, [], ◌∷◌, ◌++◌, filter, All}
use Rattle.std.specs.List.{list_any, flat_map, range_with_len}
use Rattle.orca_base.specs.declared.message.Message.{Message}
use Rattle.orca_base.specs.declared.message.Message.TheVariants as message
use Rattle.orca_base.specs.Ranges.{AreInRange}
use Rattle.orca_wav.specs.declared.voice.Voice.{Voice}
use Rattle.orca_wav.specs.Waves.{TimedMessage, voices_of, sample_at, sample_bytes, run_bytes}

-- the voice is that of the channel and key
abbrev pub is_of : ℕ → ℕ → Voice → Bool
is_of channel key voice = voice.channel == channel && voice.key == key

-- one of the voices is
abbrev pub is_voice_on : List Voice → ℕ → ℕ → Bool
is_voice_on voices channel key = list_any (is_of channel key) voices

-- two voices have the same channel and key
abbrev pub is_same_voice : Voice → Voice → Bool
is_same_voice a b = is_of a.channel a.key b

-- how many samples the run has so far, and its voices, in the order in which they began
pub record Rendering : Type 0 where
  pub samples : ℕ
  pub voices : List Voice

abbrev pub rendering_of : ℕ → List Voice → Rendering
rendering_of samples voices = record { samples = samples; voices = voices }

-- an On starts a voice that is not there, and an Off ends one that is
abbrev pub SuitsVoices : List Voice → Message → Type 0
SuitsVoices voices (message.On channel key velocity) =
    AreInRange channel key velocity × (is_voice_on voices channel key ≡ false)
SuitsVoices voices (message.Off channel key) = is_voice_on voices channel key ≡ true
SuitsVoices voices _ = Unit {0}

-- after a message
abbrev pub rendering_after : Rendering → Message → Rendering
rendering_after s (message.On channel key velocity) =
    let voice : Voice =
    record { channel = channel; key = key; velocity = velocity; first = s.samples } in
    rendering_of s.samples (s.voices ++ voice ∷ [])
rendering_after s (message.Off channel key) =
    rendering_of s.samples (filter (λ voice. not (is_of channel key voice)) s.voices)
rendering_after s _ = s

-- the bytes of the next `count` samples
unfoldable pub next_bytes : Rendering → ℕ → List ℕ
next_bytes s count =
    flat_map (λ n. sample_bytes (sample_at s.voices n)) (range_with_len s.samples count)

-- a run with these messages has been rendered so far, and these are its bytes
pub record Renders (messages : List TimedMessage) (s : Rendering) (rendered : List ℕ) : Type 0 where
  pub voices : s.voices ≡ voices_of messages
  pub before : All (λ m. m.samples ≤ s.samples) messages
  pub bytes : rendered ≡ run_bytes messages s.samples

-- What a wave sounds like: the wave of the messages of its frames.
use Rattle.std.specs.Prelude.{◌≡◌, ℕ, ◌+◌, ◌*◌, true, List, [], ◌∷◌, ◌++◌, fold, length, map}
use Rattle.orca_base.specs.declared.message.Message.{Message}
use Rattle.orca_wav.specs.Waves.{TimedMessage, run_bytes, voices_of}
use Rattle.orca_reports.specs.Waves.{Wave, framed, suits, wave_at_start}

-- the messages of a frame, which come when there are n samples
abbrev pub timed_at : ℕ → List Message → List TimedMessage
timed_at n messages = map (λ m. record { message = m; samples = n }) messages

-- the messages of frames of so many samples, the first of which comes when there are n
abbrev pub timed_from : ℕ → ℕ → List (List Message) → List TimedMessage
timed_from frame n [] = []
timed_from frame n (messages ∷ frames) =
    timed_at n messages ++ timed_from frame (n + frame) frames

-- messages that come after others: none starts a voice that is there, or ends one that is not
abbrev pub AreFair : List TimedMessage → List TimedMessage → Type 0
AreFair before [] = Unit {0}
AreFair before (m ∷ later) =
    (suits (voices_of before) m.message ≡ true) × AreFair (before ++ m ∷ []) later

-- a wave after frames
abbrev pub wave_played : Wave → List (List Message) → Wave
wave_played w frames = fold (λ w messages. framed messages w) w frames

-- the samples of fair frames are those of a run with their messages
pub record SoundsAs (messages : List TimedMessage) (count : ℕ) (w : Wave) : Type 0 where
  pub samples : w.rendering.samples ≡ count
  pub bytes : w.bytes ≡ run_bytes messages count

abbrev pub FramesSound : Type 0
FramesSound =
    (out : List ℕ) (bpm : ℕ) (frames : List (List Message))
    → let w = wave_at_start out bpm in
    let messages = timed_from w.frame 0 frames in
    AreFair [] messages → SoundsAs messages (w.frame * length frames) (wave_played w frames)

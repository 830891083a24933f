-- A run that is rendered as a wave: its voices, and the bytes of its samples so far.
use Rattle.std.specs.Prelude.{ℕ, ◌+◌, ◌*◌, ◌/◌, nat_lt, Bool, true, false, not, if◌then◌else◌, List, [], ◌++◌, fold, Result, Ok, Err}
use Rattle.orca_base.specs.declared.command.Reply.{Reply}
use Rattle.orca_base.specs.declared.command.Reply.TheVariants.{Framed}
use Rattle.orca_base.specs.declared.command.Rule.{Rule}
use Rattle.orca_base.specs.declared.command.Rule.TheVariants.{HistoryFull}
use Rattle.orca_base.specs.declared.message.Message.{Message}
use Rattle.orca_base.specs.declared.message.Message.TheVariants as message
use Rattle.orca_concert.specs.Manners.{Aside, Manner, News, halt, remarks, silence}
use Rattle.orca_concert.specs.Manners.News.{Closed, Done, Last, Stands}
use Rattle.orca_concert.specs.Manners.Remark.{File}
use Rattle.orca_course.specs.declared.ending.Stop.TheVariants.{Full, WaveTooLong}
use Rattle.orca_wav.specs.declared.limits.TheConstants.{MAX_WAVE_BYTES, SAMPLE_BYTES, SLOWEST_FRAME_SAMPLES}
use Rattle.orca_wav.specs.declared.voice.Voice.{Voice}
use Rattle.orca_wav.specs.Header.{header_bytes}
use Rattle.orca_wav.specs.Rendering.{Rendering, is_voice_on, next_bytes, rendering_after, rendering_of}

-- the name of the file, the samples of a frame, how many samples there are so far with the voices,
-- and the bytes of these samples
pub record Wave : Type 0 where
  pub out : List ℕ
  pub frame : ℕ
  pub rendering : Rendering
  pub bytes : List ℕ

-- so many beats a minute, and no sample
abbrev pub frame_samples : ℕ → ℕ
frame_samples bpm = SLOWEST_FRAME_SAMPLES / bpm

abbrev pub wave_at_start : List ℕ → ℕ → Wave
wave_at_start out bpm = record {
  out = out;
  frame = frame_samples bpm;
  rendering = rendering_of 0 [];
  bytes = [];
}

-- a message suits the voices: it starts none that is there, and ends none that is not
abbrev pub suits : List Voice → Message → Bool
suits voices (message.On channel key velocity) = not (is_voice_on voices channel key)
suits voices (message.Off channel key) = is_voice_on voices channel key
suits voices _ = true

-- after a message; one that does not suit the voices is left out, and those of a run suit them
unfoldable pub heard_message : Rendering → Message → Rendering
heard_message s m = if suits s.voices m then rendering_after s m else s

-- with the samples of a frame more
abbrev pub sounded : Rendering → Wave → Wave
sounded s w = record {
  out = w.out;
  frame = w.frame;
  rendering = rendering_of (s.samples + w.frame) s.voices;
  bytes = w.bytes ++ next_bytes s w.frame;
}

-- after a frame: its messages are taken first, and then its samples follow
unfoldable pub framed : List Message → Wave → Wave
framed messages w = sounded (fold heard_message w.rendering messages) w

-- the bytes of the samples, and of those with a frame more
abbrev pub wave_size : Wave → ℕ
wave_size w = SAMPLE_BYTES * w.rendering.samples

abbrev pub next_size : Wave → ℕ
next_size w = SAMPLE_BYTES * (w.rendering.samples + w.frame)

-- a frame ends the run if its samples are too many
abbrev pub samples_aside : List Message → Wave → Aside Wave
samples_aside messages w =
    if nat_lt MAX_WAVE_BYTES (next_size w) then halt WaveTooLong w else silence (framed messages w)

-- a full history ends the run
abbrev pub wav_report : Result Reply Rule → List Message → Wave → Aside Wave
wav_report (Ok (Framed tick)) messages w = samples_aside messages w
wav_report (Err HistoryFull) messages w = halt Full w
wav_report answer messages w = silence w

-- the file: the header, and the samples
unfoldable pub wave_file : Wave → List ℕ
wave_file w = header_bytes (wave_size w) ++ w.bytes

-- `wav` hands nothing out and prints nothing. The close has no samples
abbrev pub wav_tells : News → Wave → Aside Wave
wav_tells (Done line answer messages) w = wav_report answer messages w
wav_tells (Stands s) w = silence w
wav_tells (Closed messages) w = silence w
wav_tells Last w = remarks (File w.out (wave_file w)) w

abbrev pub wav_manner : Manner Wave
wav_manner = record { hands = false; tells = wav_tells }

-- The wave that a run saves: the sound of its messages.
use Rattle.std.specs.Prelude.{◌≡◌, ℕ, ◌*◌, List, [], ◌∷◌, ◌++◌, None}
use Rattle.orca_base.specs.Grids.{IsSheet}
use Rattle.orca_concert.specs.Concerts.{Concert}
use Rattle.orca_course.specs.Acts.Act.{Save}
use Rattle.orca_course.specs.Courses.{Course}
use Rattle.orca_course.specs.declared.ending.Stop.{Stop}
use Rattle.orca_course.specs.declared.tally.Tally.{Tally}
use Rattle.orca_edit.specs.Frames.{frames_of}
use Rattle.orca_edit.specs.Obeying.{MachineState}
use Rattle.orca_edit.specs.Prices.{Kept}
use Rattle.orca_op.specs.Laws.{IsLawful}
use Rattle.orca_op.specs.Rules.{rule}
use Rattle.orca_wav.specs.declared.limits.TheConstants.{SAMPLE_BYTES}
use Rattle.orca_wav.specs.Header.{header_bytes}
use Rattle.orca_wav.specs.Waves.{run_bytes}
use Rattle.orca_reports.specs.Runs.{Opened, outside_calls, frames_run, opened_session}
use Rattle.orca_reports.specs.Sounding.{timed_from}
use Rattle.orca_reports.specs.Waves.{Wave, frame_samples, wav_manner, wave_at_start}

-- the file of so many frames: the header, and the samples of a run with their messages, which come
-- before the samples of their frame
abbrev pub wave_of : ℕ → ℕ → MachineState → List ℕ
wave_of bpm frames m =
    let count = frame_samples bpm * frames in
    header_bytes (SAMPLE_BYTES * count)
    ++ run_bytes (timed_from (frame_samples bpm) 0 (frames_of frames m)) count

-- so many frames of an opened grid, rendered as a wave
abbrev pub wave_run : List ℕ → ℕ → ℕ → Opened → Kept → Tally → Course (Concert Wave) Stop
wave_run out bpm frames o kept tally =
    frames_run wav_manner (wave_at_start out bpm) frames o kept tally

-- a run that was not ended early makes one call: the file of its wave is saved
abbrev pub WaveIsSaved : Type 0
WaveIsSaved =
    IsLawful rule → (out : List ℕ) (bpm frames : ℕ) (o : Opened) (kept : Kept) (tally : Tally)
    → IsSheet o.sheet
    → let c = wave_run out bpm frames o kept tally in
    c.ending ≡ None → outside_calls c.acts ≡ Save out (wave_of bpm frames (opened_session o)) ∷ []

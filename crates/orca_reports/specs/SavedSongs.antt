-- The song that a run saves: its MIDI messages with their ticks.
use Rattle.std.specs.Prelude.{◌≡◌, ◌≤◌, ℕ, ◌+◌, ◌/◌, List, [], ◌∷◌, ◌++◌, None}
use Rattle.orca_base.specs.declared.limits.TheConstants.{MAX_HISTORY, MINUTE_MICROSECONDS}
use Rattle.orca_base.specs.declared.message.Message.{Message}
use Rattle.orca_base.specs.Grids.{IsSheet}
use Rattle.orca_concert.specs.Concerts.{Concert}
use Rattle.orca_course.specs.Acts.Act.{Save}
use Rattle.orca_course.specs.Courses.{Course}
use Rattle.orca_course.specs.declared.ending.Stop.{Stop}
use Rattle.orca_course.specs.declared.tally.Tally.{Tally}
use Rattle.orca_edit.specs.Frames.{close_of, frames_of}
use Rattle.orca_edit.specs.Obeying.{MachineState}
use Rattle.orca_edit.specs.Prices.{Kept}
use Rattle.orca_op.specs.Laws.{IsLawful}
use Rattle.orca_op.specs.Rules.{rule}
use Rattle.orca_smf.specs.declared.timed.Timed.{Timed}
use Rattle.orca_smf.specs.Songs.{IsTune, Tune, file_of}
use Rattle.orca_reports.specs.Runs.{Opened, outside_calls, frames_run, opened_session}
use Rattle.orca_reports.specs.Songs.{SongSoFar, recording_at_start, smf_manner}
use Rattle.orca_reports.specs.Ticks.{timed_of}

-- the MIDI messages of frames with their ticks, the first frame being that of a tick
abbrev pub timed_frames : ℕ → List (List Message) → List Timed
timed_frames tick [] = []
timed_frames tick (messages ∷ frames) = timed_of tick messages ++ timed_frames (tick + 1) frames

-- the song of so many frames: the messages of each frame have its tick, and those of the close have
-- the tick of the end
abbrev pub song_of : ℕ → ℕ → MachineState → Tune
song_of bpm frames m = record {
  tempo = MINUTE_MICROSECONDS / bpm;
  list = timed_frames 0 (frames_of frames m) ++ timed_of frames (close_of frames m);
  end = frames;
}

-- so many frames of an opened grid, recorded as a song
abbrev pub song_run : List ℕ → ℕ → ℕ → Opened → Kept → Tally → Course (Concert SongSoFar) Stop
song_run out bpm frames o kept tally =
    frames_run smf_manner (recording_at_start out bpm frames) frames o kept tally

-- a run that was not ended early makes one call: the file of its song is saved
abbrev pub SongIsSaved : Type 0
SongIsSaved =
    (out : List ℕ) (bpm frames : ℕ) (o : Opened) (kept : Kept) (tally : Tally)
    → o.limit ≤ MAX_HISTORY
    → let c = song_run out bpm frames o kept tally in
    c.ending ≡ None
    → outside_calls c.acts ≡ Save out (file_of (song_of bpm frames (opened_session o))) ∷ []

-- and this is a song, so its file can be read, and gives exactly it
abbrev pub SongIsTune : Type 0
SongIsTune =
    IsLawful rule → (out : List ℕ) (bpm frames : ℕ) (o : Opened) (kept : Kept) (tally : Tally)
    → IsSheet o.sheet → 4 ≤ bpm → o.limit ≤ MAX_HISTORY
    → let c = song_run out bpm frames o kept tally in
    c.ending ≡ None → IsTune (song_of bpm frames (opened_session o))

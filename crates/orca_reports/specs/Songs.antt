-- A run that is recorded as a song: its MIDI messages with their ticks, up to the tick of its end.
use Rattle.std.specs.Prelude.{ℕ, ◌+◌, ◌/◌, nat_lt, max, min, false, if◌then◌else◌, List, [], ◌∷◌, ◌++◌, length, fold, Option, Some, None, Result, Ok, Err}
use Rattle.orca_base.specs.declared.command.Reply.{Reply}
use Rattle.orca_base.specs.declared.command.Reply.TheVariants.{Framed}
use Rattle.orca_base.specs.declared.command.Rule.{Rule}
use Rattle.orca_base.specs.declared.command.Rule.TheVariants.{HistoryFull}
use Rattle.orca_base.specs.declared.limits.TheConstants.{MINUTE_MICROSECONDS}
use Rattle.orca_base.specs.declared.message.Message.{Message}
use Rattle.orca_base.specs.MidiBytes.{midi_bytes_of}
use Rattle.orca_concert.specs.Manners.{Aside, Manner, News, halt, remarks, silence}
use Rattle.orca_concert.specs.Manners.News.{Closed, Done, Last, Stands}
use Rattle.orca_concert.specs.Manners.Remark.{File, Nothing}
use Rattle.orca_course.specs.declared.ending.Stop.{Stop}
use Rattle.orca_course.specs.declared.ending.Stop.TheVariants.{Full, SongTooLong}
use Rattle.orca_smf.specs.declared.limits.TheConstants.{MAX_DELTA, MAX_TRACK_BYTES}
use Rattle.orca_smf.specs.declared.timed.Timed.{Timed}
use Rattle.orca_smf.specs.Recording.{Recorded}
use Rattle.orca_smf.specs.Songs.{last_tick, smf, track_bytes}

-- the name of the file, the tick of the end, and the song so far, until it is given up or saved
pub record SongSoFar : Type 0 where
  pub out : List ℕ
  pub end : ℕ
  pub song : Option Recorded

abbrev pub with_song : SongSoFar → Option Recorded → SongSoFar
with_song r song = record r { song = song }

-- so many beats a minute, so many frames, and no message
abbrev pub recording_at_start : List ℕ → ℕ → ℕ → SongSoFar
recording_at_start out bpm frames = record {
  out = out;
  end = frames;
  song = Some (record { tempo = MINUTE_MICROSECONDS / bpm; list = [] });
}

-- a tick after another one, or the nearest one that a delta time reaches; the ticks of a run that
-- come in order are reached
abbrev pub reached : ℕ → ℕ → ℕ
reached before tick = max before (min tick (before + MAX_DELTA))

-- the tick that is reached in a song
abbrev pub reached_in : Recorded → ℕ → ℕ
reached_in s tick = reached (last_tick 0 s.list) tick

-- with a message more
abbrev pub with_message : Recorded → ℕ → List ℕ → Recorded
with_message s tick bytes =
    let timed : Timed = record { tick = reached_in s tick; bytes = bytes } in
    record { tempo = s.tempo; list = s.list ++ timed ∷ [] }

-- the bytes of its track with an end, and with the shortest one, at the tick of its last message
abbrev pub whole_size : Recorded → ℕ → ℕ
whole_size s end = length (track_bytes s.tempo s.list (reached_in s end))

abbrev pub least_size : Recorded → ℕ
least_size s = length (track_bytes s.tempo s.list (last_tick 0 s.list))

-- a song with the message: none if its track is too long
abbrev pub if_short : Recorded → Option Recorded
if_short s = if nat_lt MAX_TRACK_BYTES (least_size s) then None else Some s

-- a message is added, unless the song was given up
abbrev pub with_bytes : ℕ → List ℕ → Option Recorded → Option Recorded
with_bytes tick bytes None = None
with_bytes tick bytes (Some s) = if_short (with_message s tick bytes)

-- a message is added if it is a MIDI message
abbrev pub added_by : ℕ → Option (List ℕ) → Option Recorded → Option Recorded
added_by tick None song = song
added_by tick (Some bytes) song = with_bytes tick bytes song

unfoldable pub added : ℕ → Option Recorded → Message → Option Recorded
added tick song m = added_by tick (midi_bytes_of m) song

-- what ends the run: a song that is given up, since its track is too long
abbrev pub loss : Option Recorded → Option Recorded → Option Stop
loss (Some before) None = Some SongTooLong
loss _ _ = None

-- the messages of a tick are added, in order
unfoldable pub recorded : ℕ → List Message → SongSoFar → Aside SongSoFar
recorded tick messages r =
    let song = fold (added tick) r.song messages in
    record { remark = Nothing; state = with_song r song; ending = loss r.song song }

-- the messages of a frame are added; a full history ends the run, and gives the song up
abbrev pub smf_report : Result Reply Rule → List Message → SongSoFar → Aside SongSoFar
smf_report (Ok (Framed tick)) messages r = recorded tick messages r
smf_report (Err HistoryFull) messages r = halt Full (with_song r None)
smf_report answer messages r = silence r

-- the song is finished and saved; none is saved if its track is too long
abbrev pub song_finished : Recorded → SongSoFar → Aside SongSoFar
song_finished s r =
    if nat_lt MAX_TRACK_BYTES (whole_size s r.end) then halt SongTooLong (with_song r None)
    else remarks (File r.out (smf s.tempo s.list (reached_in s r.end))) (with_song r None)

abbrev pub saved_by : Option Recorded → SongSoFar → Aside SongSoFar
saved_by None r = silence r
saved_by (Some s) r = song_finished s r

-- `smf` hands nothing out and prints nothing. The messages of the close have the tick of the end
abbrev pub smf_tells : News → SongSoFar → Aside SongSoFar
smf_tells (Done line answer messages) r = smf_report answer messages r
smf_tells (Stands s) r = silence r
smf_tells (Closed messages) r = recorded r.end messages r
smf_tells Last r = saved_by r.song r

abbrev pub smf_manner : Manner SongSoFar
smf_manner = record { hands = false; tells = smf_tells }

-- What a run needs so that all of it can be done: a grid, a script, and a history with room for
-- each frame.
use Rattle.std.specs.Prelude.{◌≡◌, ◌≢◌, ◌<◌, ◌≤◌, ℕ, true, false, List, ◌∷◌, ◌++◌, Some, None, IfSome, IsOk, IsOkAnd, IsSomeAnd, Ok}
use Rattle.orca_base.specs.declared.limits.TheConstants.{MAX_POLLS}
use Rattle.orca_base.specs.Grids.{Sheet}
use Rattle.orca_clock.specs.Followers.{follow_part}
use Rattle.orca_clock.specs.Leaders.{lead_part}
use Rattle.orca_concert.specs.Concerts.{concert_with, concert_course}
use Rattle.orca_course.specs.Performers.{Hearing, Part, performance}
use Rattle.orca_course.specs.declared.ending.Ending.TheVariants.{Stopped}
use Rattle.orca_course.specs.declared.ending.Stop.TheVariants.{Full, SongTooLong}
use Rattle.orca_cues.specs.Cues.{frames_cue}
use Rattle.orca_cues.specs.Rooms.{room_parts, whole_lines}
use Rattle.orca_cues.specs.Scripts.{any_script_of, script_by}
use Rattle.orca_cues.specs.declared.source.Cue.{Cue}
use Rattle.orca_grid.specs.GridText.{grid_text}
use Rattle.orca_live.specs.Items.{lasting_answers}
use Rattle.orca_live.specs.Laws.{so_far}
use Rattle.orca_live.specs.Performing.{answered_at, lull_course}
use Rattle.orca_live.specs.States.{LiveState, is_full}
use Rattle.orca_reports.specs.Manners.{state_manner}
use Rattle.orca_reports.specs.Songs.{recording_at_start, smf_manner}
use Rattle.orca_rig.specs.declared.files.Claim.TheVariants as claim
use Rattle.orca_rig.specs.declared.inbox.Answer.TheVariants as answer
use Rattle.orca_rooms.specs.Limits.{room_limit}
use Rattle.orca_words.specs.Requests.{Events, Follow, Lead, Make, Migrate, Perform, Play, Recording, Recover, Recovery, Replay, Request, Run, Setup, Smf, Wav, Work}
use Rattle.orca_player.specs.Outlines.{Brought, Heard, follow_start, is_strict, is_too_long, lead_start, limit_for, live_start, room_name, start_of}

-- each line of a text asks for commands, or for none
abbrev pub IsScript : List ℕ → Type 0
IsScript text = (cues : List Cue) × (any_script_of text ≡ Ok cues)

-- each whole line of the script of a room asks for commands, or for none, and the session that is
-- recovered has no fewer entries than the performance
abbrev pub CanBeDone : Recovery → List ℕ → Type 0
CanBeDone r script =
    IsOk (script_by true script)
    × (is_strict (limit_for r (room_limit script)) (room_limit script) ≡ false)

-- a text has the parts of a room: a grid, and such a script
abbrev pub IsRoom : Recovery → List ℕ → Type 0
IsRoom r text =
    IsSomeAnd (room_parts text) (λ room. IsOk (grid_text room.grid)
    × CanBeDone r (whole_lines room.script))

-- where a performance stands before the frame of an answer at this moment
abbrev pub before_frame : ℕ → LiveState → LiveState
before_frame at s = (lull_course (answered_at at s)).state

-- wherever a frame is due, the history has room for it
abbrev pub HasFrameRoom : LiveState → Brought → Type 0
HasFrameRoom s b =
    (before : List Hearing) (h : Hearing) (others : List Hearing) (at : ℕ)
    → b.hearings ≡ before ++ h ∷ others → h.poll.answer ≡ answer.Due at
    → (so_far s b.opening before).ending ≡ None
    → is_full (before_frame at (so_far s b.opening before).state) ≡ false

-- no frame of a clock is due where the history is full, which would end the performance
abbrev pub NeverFull : {S : Type 0} → Part S → S → Brought → Type 0
NeverFull p s b = (performance p s b.opening b.hearings).ending ≢ Some (Stopped Full)

-- a song of these frames does not end the run since it is too long
abbrev pub SongFits : Setup → Recording → Sheet → Type 0
SongFits setup song sheet =
    (concert_course smf_manner (frames_cue song.frames) (concert_with (start_of setup sheet)
    (recording_at_start song.out song.bpm song.frames))).ending ≢ Some SongTooLong

-- what the work needs on an opened grid. The frames of a run, of its events, of a song and of a wave
-- fit into the history, and the song is not too long. The room of a performance was not there before.
-- A performance has space for each frame that is due, also by a clock, and fewer polls than may be made
-- are answered by bytes or a due moment
abbrev pub CanDo : Setup → Work → Sheet → Brought → Type 0
CanDo setup (Run frames) sheet b = frames ≤ setup.limit
CanDo setup (Events frames) sheet b = frames ≤ setup.limit
CanDo setup (Smf song) sheet b = (song.frames ≤ setup.limit) × SongFits setup song sheet
CanDo setup (Wav wave) sheet b = wave.frames ≤ setup.limit
CanDo setup (Replay name) sheet b = IfSome b.script IsScript
CanDo setup (Play play) sheet b =
    IfSome (room_name play) (λ name. IfSome b.claimed (λ answer. answer ≡ claim.Made))
    × (lasting_answers b.hearings < MAX_POLLS)
    × IfSome b.start (λ at. HasFrameRoom (live_start setup play at (start_of setup sheet)) b)
CanDo setup (Follow address) sheet b =
    (lasting_answers b.hearings < MAX_POLLS)
    × IfSome b.start (λ at. NeverFull (follow_part state_manner)
    (follow_start (start_of setup sheet)) b)
CanDo setup (Lead lead) sheet b =
    (lasting_answers b.hearings < MAX_POLLS)
    × IfSome b.start (λ at. NeverFull (lead_part state_manner)
    (lead_start lead.bpm at (start_of setup sheet)) b)

-- all that a request asks for can be done, unless something outside fails
abbrev pub IsReady : Request → Heard → Type 0
IsReady (Make load) h = Unit {0}
IsReady (Migrate m) h = IfSome h.brought.script IsScript
IsReady (Recover r) h = IfSome h.brought.script (IsRoom r)
IsReady (Perform setup work) h =
    (is_too_long work ≡ false)
    × IfSome h.grid (λ text. IsOkAnd (grid_text text) (λ sheet. CanDo setup work sheet h.brought))

-- The definition of a run: all that it does on the outside, in order, what it may cost, and how it
-- ends, by its words and by what the outside gives to it.
use Rattle.std.specs.Prelude.{ℕ, ◌+◌, ◌*◌, ◌==◌, nat_lt, Bool, true, false, ◌||◌, if◌then◌else◌, List, [], ◌∷◌, ◌++◌, length, Option, Some, None, Result, Ok, Err, unwrap_or, codes, map}
use Rattle.std.specs.Fmt.{decimal}
use Rattle.std.specs.List.{list_any, range_with_len}
use Rattle.std.specs.Option.{option_map, option_map_or}
use Rattle.std.specs.Str.Lines.{lines}
use Rattle.orca_base.specs.Ascii.{line_feed}
use Rattle.orca_base.specs.MidiBytes.{control_bytes}
use Rattle.orca_base.specs.Ports.{Sent}
use Rattle.orca_base.specs.declared.limits.TheConstants.{DEFAULT_HISTORY, DEFAULT_SEED, MAX_CHANNEL}
use Rattle.orca_base.specs.declared.port.Port.{Port}
use Rattle.orca_base.specs.declared.port.Port.TheVariants as port
use Rattle.orca_base.specs.declared.command.Command.{Command}
use Rattle.orca_base.specs.Grids.{Sheet, Size}
use Rattle.orca_clock.specs.Followers.{Followed, follow_at_start, follow_part}
use Rattle.orca_clock.specs.Leaders.{Led, lead_at_start, lead_part}
use Rattle.orca_concert.specs.Concerts.{Concert, concert_with, concert_course, stance_of}
use Rattle.orca_concert.specs.Manners.{Manner}
use Rattle.orca_course.specs.Acts.{Act, gives}
use Rattle.orca_course.specs.Acts.Act.{Attach, Claim, Learn, Listen, Load, Remove, Save, Stand}
use Rattle.orca_course.specs.Courses.{Course, afterwards, course, ended, joined, mapped}
use Rattle.orca_course.specs.Doing.{Stance}
use Rattle.orca_course.specs.Performers.{Hearing, Part, performance}
use Rattle.orca_course.specs.Standings.{Standing, standing, tally_at_start}
use Rattle.orca_course.specs.declared.ending.Ending.{Ending}
use Rattle.orca_course.specs.declared.ending.Ending.TheVariants.{Stopped, Lost, Spent}
use Rattle.orca_course.specs.declared.ending.Stop.{Stop}
use Rattle.orca_course.specs.declared.ending.Stop.TheVariants.{Left, Full, SongTooLong, WaveTooLong}
use Rattle.orca_course.specs.declared.item.Losses.{Losses}
use Rattle.orca_cues.specs.Cues.{frames_cue}
use Rattle.orca_cues.specs.Made.{made_cues, made_sheet}
use Rattle.orca_cues.specs.Rooms.{Room, room_parts, whole_lines}
use Rattle.orca_cues.specs.Scripts.{any_script_of, commands_of_cues, script_by, seed_in}
use Rattle.orca_rooms.specs.Limits.{limit_word, room_limit}
use Rattle.orca_rooms.specs.Sound.{first_commands, sound_script}
use Rattle.orca_cues.specs.declared.fault.ScriptFault.{ScriptFault}
use Rattle.orca_cues.specs.declared.source.Cue.{Cue}
use Rattle.orca_edit.specs.Obeying.{MachineState, machine_at_start, piece_of}
use Rattle.orca_edit.specs.Prices.{kept_at_start}
use Rattle.orca_grid.specs.GridText.{grid_text, text_of}
use Rattle.orca_grid.specs.declared.refusal.GridRefusal.{GridRefusal}
use Rattle.orca_grid.specs.declared.refusal.GridRefusal.TheVariants.{NoCells}
use Rattle.orca_live.specs.Performing.{live_part}
use Rattle.orca_jam.specs.Crews.{CrewState, crew_alone, crew_at_start}
use Rattle.orca_live.specs.Starting.{live_at_start, nothing_failed}
use Rattle.orca_live.specs.States.{LiveState, Setting}
use Rattle.orca_reports.specs.Manners.{events_manner, make_manner, replay_manner, run_manner, state_manner}
use Rattle.orca_reports.specs.Rescues.{Rescue, recovery_manner, rescue_at_start}
use Rattle.orca_reports.specs.SavedSongs.{song_of}
use Rattle.orca_reports.specs.SavedWaves.{wave_of}
use Rattle.orca_reports.specs.Songs.{recording_at_start, smf_manner}
use Rattle.orca_reports.specs.Waves.{frame_samples, wav_manner, wave_at_start}
use Rattle.orca_rig.specs.declared.files.Claim.{Claim as Claimed}
use Rattle.orca_rig.specs.declared.files.Claim.TheVariants as claim
use Rattle.orca_script.specs.Runs.{printed_header, printed_script}
use Rattle.orca_term.specs.declared.cell.ScreenSize.{ScreenSize}
use Rattle.orca_wav.specs.declared.limits.TheConstants.{MAX_WAVE_BYTES, SAMPLE_BYTES}
use Rattle.orca_words.specs.Requests.{Events, Follow, Lead, Make, Migrate, Migration, Perform, Performance, Play, Recording, Recover, Recovery, Replay, Request, Run, Setup, Smf, Wav, Work, Workload, request_of}
use Rattle.orca_player.specs.Takes.{Take, Song, Wave}
use Rattle.orca_player.specs.declared.live.TheConstants.{ALONE}
use Rattle.orca_player.specs.declared.status.Status.{Status}
use Rattle.orca_player.specs.declared.status.Status.TheVariants.{Done, Usage, GridRefused, FileFault, ScriptRefused, HistoryFull, InboxFault, TurnsSpent, SmfTooLong, WavTooLong, RoomLeft, RoomHeld}

-- what the outside gives to the work on a grid: the text of the file of its script, unless its load
-- fails; whether its room was made, unless that fails; the moment at which its inbox listens, unless
-- that fails; what the calls before a performance came to; the polls of the inbox with their answers,
-- each with what the calls had come to when all was done that it brought; and what the calls of a
-- whole performance came to
pub record Brought : Type 0 where
  pub script : Option (List ℕ)
  pub claimed : Option Claimed
  pub start : Option ℕ
  pub opening : Losses
  pub hearings : List Hearing
  pub closing : Losses

-- nothing
abbrev pub nothing : Brought
nothing = record {
  script = None;
  claimed = None;
  start = None;
  opening = nothing_failed;
  hearings = [];
  closing = nothing_failed;
}

-- and to a run: the text of the file of its grid too, unless its load fails
pub record Heard : Type 0 where
  pub grid : Option (List ℕ)
  pub brought : Brought

-- the seed and the commands of a script
pub record Script : Type 0 where
  pub seed : ℕ
  pub commands : List Command

-- whether the messages of commands are handed out; what a run sends before its session is opened,
-- nothing but where a room is recovered; what it does, where its session stands at last, and how it
-- ends, unless the answers of its inbox break off; the screen that it paints on, the script that it
-- saves, and the song or the wave that it is recorded as, if it has them
pub record Outline : Type 0 where
  pub hands : Bool
  pub first : List Sent
  pub course : Course (Option Standing) Status
  pub screen : Option ScreenSize
  pub given : Option Script
  pub take : Option Take

-- without these, and with nothing that is sent before
abbrev pub plain_outline : Bool → Course (Option Standing) Status → Outline
plain_outline hands c = record {
  hands = hands;
  first = [];
  course = c;
  screen = None;
  given = None;
  take = None;
}

-- nothing more is done, and the run ends so
abbrev pub stopped_run : Status → Outline
stopped_run status = plain_outline true (ended status None)

-- acts before the session is opened, and then the rest of a run
abbrev pub preceded : List Act → Outline → Outline
preceded acts o = record o { course = joined (course {S = Option Standing} {E = Status} acts 0 None) o.course }

-- it is recorded as this
abbrev pub recorded_outline : Take → Outline → Outline
recorded_outline take o = record o { take = Some take }

-- ---- a list of commands

-- an opened grid, and nothing done yet
abbrev pub standing_at : Sheet → ℕ → ℕ → Standing
standing_at sheet seed limit = standing (machine_at_start sheet seed limit) kept_at_start tally_at_start

-- the session is opened, and then a course of what stands on it
unfoldable pub opening : {S E : Type 0} → Stance S → (Option E → Option Status) → Standing
    → Course S E → Outline
opening v g s c =
    plain_outline v.hands (joined (course {E = Status} (Stand s ∷ []) 0 (Some s)) (mapped v.standing g c))

abbrev pub status_of_stop : Stop → Status
status_of_stop Left = Done
status_of_stop Full = HistoryFull
status_of_stop SongTooLong = SmfTooLong
status_of_stop WaveTooLong = WavTooLong

-- all was done, or what ended it early decides
abbrev pub status_of_end : Option Stop → Status
status_of_end None = Done
status_of_end (Some stop) = status_of_stop stop

-- the session is opened, all cues are done, and the run closes
unfoldable pub concert : {R : Type 0} → Manner R → R → List Cue → Standing → Outline
concert m r cues s =
    opening (stance_of m) (λ end. Some (status_of_end end)) s
    (concert_course m cues (concert_with s r))

-- ---- files

-- a file is loaded, and its text decides what comes next; one that can't be loaded ends the run
unfoldable pub loading : List ℕ → Option (List ℕ) → (List ℕ → Outline) → Outline
loading name text next =
    preceded (Load name text ∷ []) (option_map_or next text (stopped_run FileFault))

-- every line of a script is read before anything is done by it
unfoldable pub reading_outline : (List Cue → Outline) → Result (List Cue) ScriptFault → Outline
reading_outline next (Err fault) = stopped_run (ScriptRefused fault.line fault.column)
reading_outline next (Ok cues) = next cues

-- a script may give the seed
unfoldable pub script_outline : Sheet → ℕ → ℕ → List ℕ → Outline
script_outline sheet seed limit text =
    reading_outline (λ cues. concert replay_manner tt cues
    (standing_at sheet (unwrap_or (seed_in text) seed) limit)) (any_script_of text)

-- ---- a script in format 2

-- the seed that a text of a script gives, or else this one, and the commands of its cues
abbrev pub script_in : ℕ → List ℕ → List Cue → Script
script_in seed text cues =
    record { seed = unwrap_or (seed_in text) seed; commands = commands_of_cues cues }

-- a script is saved in format 2
abbrev pub saved : List ℕ → Script → Outline
saved out script =
    let text = printed_script script.seed script.commands in
    record (preceded (Save out text ∷ []) (stopped_run Done)) { given = Some script }

unfoldable pub migrated : Migration → List ℕ → Outline
migrated m text =
    reading_outline (λ cues. saved m.out (script_in m.seed text cues)) (any_script_of text)

-- ---- a performance

abbrev pub status_of_ending : Ending → Status
status_of_ending (Stopped stop) = status_of_stop stop
status_of_ending Lost = InboxFault
status_of_ending Spent = TurnsSpent

-- the session is opened, and a performance by any performer, which stands there in this state
abbrev pub performed_outline : {S : Type 0} → Part S → Standing → S → Brought → Outline
performed_outline p s u b =
    opening p.stance (option_map status_of_ending) s (performance p u b.opening b.hearings)

-- the inbox listens at an address for so many hands, and answers the moment at which a performance
-- starts. One that can't listen ends the run, once this was done
unfoldable pub waiting : List Act → List ℕ → ℕ → Option ℕ → (ℕ → Outline) → Outline
waiting missed address hands start next =
    preceded (Listen address hands start ∷ [])
    (option_map_or next start (preceded missed (stopped_run InboxFault)))

-- where nothing is to be done then
abbrev pub listening : List ℕ → ℕ → Option ℕ → (ℕ → Outline) → Outline
listening = waiting []

-- ---- a player

-- the screen that is painted on
abbrev pub screen_of : Performance → ScreenSize
screen_of performance = record { rows = performance.rows; columns = performance.cols }

-- how a grid is played, and the files that it is saved to
abbrev pub setting_of : Setup → Performance → Setting
setting_of setup performance = record {
  bpm = performance.bpm;
  seed = setup.seed;
  grid = setup.grid;
  save = performance.save;
  script = performance.script;
  journal = performance.journal;
  room = performance.room;
  screen = screen_of performance;
}

-- how many hands a performance listens for
abbrev pub hands_asked : Performance → ℕ
hands_asked play = unwrap_or play.hands ALONE

-- its crew: a hand that plays alone, or so many that share the session, with room for the owners
-- of a whole history
abbrev pub crew_of : Setup → Performance → CrewState
crew_of setup play =
    option_map_or (λ hands. crew_at_start play.full play.views hands setup.limit) play.hands
    (crew_alone play.full)

-- the name of its room, if it is played in one
abbrev pub room_name : Performance → Option (List ℕ)
room_name play = if play.room then play.journal else None

-- a performance of its crew, which starts at a moment
abbrev pub live_start : Setup → Performance → ℕ → Standing → LiveState
live_start setup play at s =
    live_at_start (setting_of setup play) (crew_of setup play) at s

-- the script of a seed and the commands that were kept, if it is saved
abbrev pub script_kept : Option (List ℕ) → ℕ → Option (List Command) → Option Script
script_kept None seed given = None
script_kept (Some name) seed given =
    option_map (λ commands. record { seed = seed; commands = commands }) given

-- how a room is left, if there is one: it is learnt what the calls came to, and the room is taken
-- away, unless files have failed at one of them, or a command is loose: it is in no grid that was
-- saved
abbrev pub leavings : Option (List ℕ) → Losses → Bool → List Act
leavings None came loose = []
leavings (Some name) came loose =
    Learn came ∷ (if came.unstored || loose then [] else Remove name ∷ [])

-- so it is once a performance has ended
abbrev pub closings : Option (List ℕ) → Option Ending → Losses → Bool → List Act
closings room None came loose = []
closings room (Some ending) came loose = leavings room came loose

-- a performance, and what is done of its room at the end
abbrev pub leaving : Option (List ℕ) → Losses → Course LiveState Ending → Course LiveState Ending
leaving room came c =
    record c { acts = c.acts ++ closings room c.ending came c.state.loose }

abbrev pub played_course : Option (List ℕ) → LiveState → Brought → Course LiveState Ending
played_course room s b = leaving room b.closing (performance live_part s b.opening b.hearings)

-- the session is opened, a player plays from there, and the room is left
abbrev pub played : Option (List ℕ) → LiveState → Brought → Outline
played room s b = record (opening live_part.stance (option_map status_of_ending) s.standing
    (played_course room s b)) {
      screen = Some s.setting.screen;
      given = script_kept s.setting.script s.setting.seed
          (performance live_part s b.opening b.hearings).state.given;
    }

-- the same from its start
unfoldable pub live_outline : Setup → Performance → Brought → Standing → ℕ → Outline
live_outline setup play b s at = played (room_name play) (live_start setup play at s) b

-- ---- a room

-- a byte that a line of text does not have
abbrev pub is_control : ℕ → Bool
is_control byte = nat_lt byte 32

-- the line that names the port whose notes would sound on if the run were killed. A script takes it
-- for a comment
abbrev pub midi_line : Option (List ℕ) → List ℕ
midi_line None = []
midi_line (Some name) =
    if list_any is_control name then [] else codes "# midi " ++ (name ++ line_feed ∷ [])

-- the line of the most entries that its history may have, a comment too
abbrev pub limit_line : ℕ → List ℕ
limit_line limit = limit_word ++ (decimal limit ++ line_feed ∷ [])

-- the first lines of its script
abbrev pub script_start : Setup → List ℕ
script_start setup =
    printed_header setup.seed ++ (limit_line setup.limit ++ midi_line setup.midi)

-- what a room begins with: the text of the grid, an empty line, and the first lines of a script
abbrev pub room_start : Setup → Sheet → List ℕ
room_start setup sheet = text_of sheet ++ line_feed ∷ script_start setup

-- a run goes on in a room that was made. One that is there ends it, and so does a fault
abbrev pub after_claim : Option Claimed → Outline → Outline
after_claim None next = stopped_run FileFault
after_claim (Some claim.Left) next = stopped_run RoomLeft
after_claim (Some claim.Held) next = stopped_run RoomHeld
after_claim (Some claim.Made) next = next

-- a room is claimed, if there is to be one
unfoldable pub roomed : Option (List ℕ) → List ℕ → Option Claimed → Outline → Outline
roomed None start claimed next = next
roomed (Some name) start claimed next =
    preceded (Claim name start claimed ∷ []) (after_claim claimed next)

-- ---- a clock

-- the session is opened, and it plays by a clock that comes in
abbrev pub followed : {R : Type 0} → Manner R → Followed R → Brought → Outline
followed m s b = performed_outline (follow_part m) s.concert.standing s b

-- no clock has started it so far
abbrev pub follow_start : Standing → Followed (Unit {0})
follow_start s = follow_at_start (concert_with s tt)

-- the same from its start
unfoldable pub follow_outline : Brought → Standing → Outline
follow_outline b s = followed state_manner (follow_start s) b

-- the session is opened, and it plays and gives a clock
abbrev pub led : {R : Type 0} → Manner R → Led R → Brought → Outline
led m s b = performed_outline (lead_part m) s.concert.standing s b

-- with so many beats a minute, from a moment on
abbrev pub lead_start : ℕ → ℕ → Standing → Led (Unit {0})
lead_start bpm at s = lead_at_start bpm at (concert_with s tt)

-- the same from its start
unfoldable pub lead_outline : ℕ → Brought → Standing → ℕ → Outline
lead_outline bpm b s at = led state_manner (lead_start bpm at s) b

-- ---- a grid

-- where a session stands that was opened on a grid
abbrev pub start_of : Setup → Sheet → Standing
start_of setup sheet = standing_at sheet setup.seed setup.limit

-- what is done on an opened grid
unfoldable pub work_outline : Setup → Work → Sheet → Brought → Outline
work_outline setup (Run frames) sheet b =
    concert run_manner tt (frames_cue frames) (start_of setup sheet)
work_outline setup (Events frames) sheet b =
    concert events_manner tt (frames_cue frames) (start_of setup sheet)
work_outline setup (Smf song) sheet b =
    let s = start_of setup sheet in
    recorded_outline (Song song.out (song_of song.bpm song.frames s.machine))
    (concert smf_manner (recording_at_start song.out song.bpm song.frames) (frames_cue song.frames)
    s)
work_outline setup (Wav wave) sheet b =
    let s = start_of setup sheet in
    recorded_outline (Wave wave.out (wave_of wave.bpm wave.frames s.machine))
    (concert wav_manner (wave_at_start wave.out wave.bpm) (frames_cue wave.frames) s)
work_outline setup (Replay name) sheet b =
    loading name b.script (script_outline sheet setup.seed setup.limit)
work_outline setup (Play play) sheet b =
    roomed (room_name play) (room_start setup sheet) b.claimed
    (waiting (leavings (room_name play) b.closing false) play.address (hands_asked play) b.start
    (live_outline setup play b (start_of setup sheet)))
work_outline setup (Follow address) sheet b =
    listening address ALONE b.start (λ at. follow_outline b (start_of setup sheet))
work_outline setup (Lead lead) sheet b =
    listening lead.address ALONE b.start (lead_outline lead.bpm b (start_of setup sheet))

-- a text that is no grid ends the run
unfoldable pub grid_outline : Setup → Work → Brought → Result Sheet GridRefusal → Outline
grid_outline setup work b (Err refusal) = stopped_run (GridRefused refusal)
grid_outline setup work b (Ok sheet) = work_outline setup work sheet b

-- a port is attached to its name, if it has one
abbrev pub attach_act : Port → Option (List ℕ) → List Act
attach_act port None = []
attach_act port (Some name) = Attach (record { port = port; name = name }) ∷ []

-- the ports are attached in this order
abbrev pub attach_acts : Setup → List Act
attach_acts setup =
    attach_act port.Midi setup.midi
    ++ (attach_act port.Udp setup.udp ++ attach_act port.Osc setup.osc)

-- ---- words

-- the size that two numbers give
abbrev pub made_size : Workload → Size
made_size load = record { h = load.height; w = load.width }

-- a generated grid, and its commands
unfoldable pub made_outline : Workload → Outline
made_outline load =
    concert make_manner tt (made_cues load.seed (made_size load) load.frames)
    (standing_at (made_sheet load.seed (made_size load)) load.seed DEFAULT_HISTORY)

-- All Notes Off on a channel, the controller 123 with value 0 (MIDI 1.0, channel mode messages)
abbrev pub all_notes_off : ℕ → Sent
all_notes_off channel = record { port = port.Midi; bytes = control_bytes channel 123 0 }

-- the channels of MIDI
abbrev pub channels : List ℕ
channels = range_with_len 0 (MAX_CHANNEL + 1)

-- what ends the notes that another run has left at a port, if it has a name
abbrev pub hushing : Option (List ℕ) → List Sent
hushing None = []
hushing (Some name) = map all_notes_off channels

-- the port is attached before
abbrev pub hush_acts : Option (List ℕ) → List Act
hush_acts name = attach_act port.Midi name ++ gives (hushing name)

-- the most entries of a recovered session: those that are asked for, or else those of the room
abbrev pub limit_for : Recovery → Option ℕ → ℕ
limit_for r own = unwrap_or r.limit (unwrap_or own DEFAULT_HISTORY)

-- whether a full history ends it. It does not if the performance had no more entries: that one
-- passed over the same commands
abbrev pub is_strict : ℕ → Option ℕ → Bool
is_strict limit own = option_map_or (λ most. nat_lt limit most) own true

-- how a recovery would end: a full history comes before a wrong line
abbrev pub planned_end : Option ScriptFault → Option Stop → Status
planned_end wrong (Some stop) = status_of_stop stop
planned_end None None = Done
planned_end (Some fault) None = ScriptRefused fault.line fault.column

-- how many commands were done, if not all
abbrev pub done_before : Option Stop → Rescue → Option ℕ
done_before None r = None
done_before (Some stop) r = Some r.done

-- the script of those that were done
abbrev pub script_done : ℕ → List Command → Option Stop → Rescue → Script
script_done seed commands end r =
    record { seed = seed; commands = first_commands (done_before end r) commands }

-- the save of a script, if it has a name
abbrev pub script_saves : Option (List ℕ) → Script → List Act
script_saves None script = []
script_saves (Some name) script =
    Save name (printed_script script.seed script.commands) ∷ []

-- what is saved of a session: its grid, and then its script
abbrev pub saves_of : Recovery → Script → MachineState → List Act
saves_of r script m = Save r.out (text_of (piece_of m).sheet) ∷ script_saves r.script script

-- where not all was done, it is learnt whether the files have failed
abbrev pub learnt_at : Status → Losses → List Act
learnt_at Done came = []
learnt_at planned came = Learn came ∷ []

-- that is reported first
abbrev pub status_learnt : Status → Losses → Status
status_learnt Done came = Done
status_learnt planned came = if came.unstored then FileFault else planned

-- what is saved at last, by how the commands ended, and how the run ends
abbrev pub saved_course : Recovery → ℕ → List Command → Option ScriptFault → Losses → Option Stop
    → Concert Rescue → Course (Concert Rescue) Status
saved_course r seed commands wrong came end s =
    let planned = planned_end wrong end in
    record {
      acts = saves_of r (script_done seed commands end s.kept) s.standing.machine
          ++ learnt_at planned came;
      bill = 0;
      state = s;
      ending = Some (status_learnt planned came);
    }

-- the commands of a room are done from where a run stands, and what they led to is saved
unfoldable pub rescue_by : Recovery → ℕ → List Command → Option ScriptFault → Losses → Standing
    → Course (Concert Rescue) Stop → Outline
rescue_by r seed commands wrong came s c =
    record (opening (stance_of recovery_manner) (λ end. end) s
    (afterwards c (saved_course r seed commands wrong came))) {
      given = script_kept r.script seed
          (Some (script_done seed commands c.ending c.state.kept).commands);
    }

-- so they are from their start on
abbrev pub rescued : Recovery → ℕ → List Cue → Option ScriptFault → Losses → Bool → Standing
    → Outline
rescued r seed cues wrong came strict s =
    rescue_by r seed (commands_of_cues cues) wrong came s
    (concert_course recovery_manner cues (concert_with s (rescue_at_start strict)))

-- the lines of a script before its first wrong one are done on the grid of a room
unfoldable pub sound_recovered : Recovery → Sheet → List ℕ → Option ScriptFault → Losses
    → Outline
sound_recovered r sheet text wrong came =
    let own = room_limit text in
    let limit = limit_for r own in
    let seed = unwrap_or (seed_in text) DEFAULT_SEED in
    rescued r seed (sound_script text) wrong came (is_strict limit own)
    (standing_at sheet seed limit)

-- a fault of a script, counted in a text in which so many lines stand before it
abbrev pub fault_behind : ℕ → ScriptFault → ScriptFault
fault_behind before fault = record { line = before + fault.line; column = fault.column }

-- a script whose first line is wrong is none of this format, and nothing is done by it. Another
-- wrong line has the number that it has in the room, where so many lines stand before the script
unfoldable pub wrong_recovered : Recovery → Sheet → ℕ → List ℕ → ScriptFault → Losses → Outline
wrong_recovered r sheet before text fault came =
    if fault.line == 1 then stopped_run (ScriptRefused fault.line fault.column)
    else sound_recovered r sheet text (Some (fault_behind before fault)) came

-- every line of the script of a room is read before anything is done by it
abbrev pub lines_recovered : Recovery → Sheet → ℕ → List ℕ → Losses
    → Result (List Cue) ScriptFault → Outline
lines_recovered r sheet before text came (Ok cues) = sound_recovered r sheet text None came
lines_recovered r sheet before text came (Err fault) = wrong_recovered r sheet before text fault came

unfoldable pub script_recovered : Recovery → Sheet → ℕ → List ℕ → Losses → Outline
script_recovered r sheet before text came =
    lines_recovered r sheet before text came (script_by true text)

-- how many lines of a room stand before its script
abbrev pub lines_ahead : Room → ℕ
lines_ahead room = length (lines room.grid) + 1

-- the grid of a room is read, and then the whole lines of its script
unfoldable pub grid_recovered : Recovery → Room → Losses → Result Sheet GridRefusal → Outline
grid_recovered r room came (Err refusal) = stopped_run (GridRefused refusal)
grid_recovered r room came (Ok sheet) =
    script_recovered r sheet (lines_ahead room) (whole_lines room.script) came

-- a room without an empty line has no grid
unfoldable pub recovered : Recovery → Losses → Option Room → Outline
recovered r came None = stopped_run (GridRefused NoCells)
recovered r came (Some room) = grid_recovered r room came (grid_text room.grid)

-- the notes of the run that has left it are ended before
unfoldable pub hushed : Recovery → Outline → Outline
hushed r o = record (preceded (hush_acts r.midi) o) { first = hushing r.midi }

-- a room is loaded, and its parts are read
unfoldable pub recovery_outline : Recovery → Brought → Outline
recovery_outline r b =
    loading r.room b.script (λ text. hushed r (recovered r b.closing (room_parts text)))

-- the ports are attached, the grid is loaded, and the work is done
unfoldable pub performed : Setup → Work → Heard → Outline
performed setup work h =
    preceded (attach_acts setup)
    (loading setup.grid h.grid (λ text. grid_outline setup work h.brought (grid_text text)))

-- the bytes of the samples of a wave
abbrev pub wave_bytes : Recording → ℕ
wave_bytes wave = SAMPLE_BYTES * (wave.frames * frame_samples wave.bpm)

-- a wave that would be too long, which is known before anything is done
abbrev pub is_too_long : Work → Bool
is_too_long (Wav wave) = nat_lt MAX_WAVE_BYTES (wave_bytes wave)
is_too_long work = false

-- what a request asks for. A script that is moved needs no grid
unfoldable pub request_outline : Request → Heard → Outline
request_outline (Make load) h = made_outline load
request_outline (Migrate m) h = loading m.script h.brought.script (migrated m)
request_outline (Recover r) h = recovery_outline r h.brought
request_outline (Perform setup work) h =
    if is_too_long work then stopped_run WavTooLong else performed setup work h

-- words that ask for nothing are refused
abbrev pub asked_outline : Option Request → Heard → Outline
asked_outline None h = stopped_run Usage
asked_outline (Some request) h = request_outline request h

-- what a run with these words does
unfoldable pub outline : List (List ℕ) → Heard → Outline
outline words h = asked_outline (request_of words) h

-- Where a performance stands: its setting, the session, the hands, the pacer, what each is shown
-- and told, the commands that are kept for the script, and the lines that wait for the journal.
use Rattle.std.specs.Prelude.{ℕ, ◌&&◌, ◌==◌, Bool, true, not, nat_le, nat_lt, if◌then◌else◌, List, length, map, slice_index_or, slice_set, Option, Some, None, is_some, unwrap_or, Result}
use Rattle.std.specs.List.{range_with_len}
use Rattle.std.specs.Option.{option_map}
use Rattle.orca_base.specs.declared.command.Command.{Command}
use Rattle.orca_base.specs.Grids.{Size, glyph_at}
use Rattle.orca_base.specs.declared.place.Place.{Place}
use Rattle.orca_concert.specs.Stages.{standing_of}
use Rattle.orca_course.specs.Courses.{Course}
use Rattle.orca_course.specs.Doing.{Does, Stance}
use Rattle.orca_course.specs.Standings.{Standing, notes_of}
use Rattle.orca_course.specs.Worlds.{World, owing}
use Rattle.orca_course.specs.declared.ending.Stop.{Stop}
use Rattle.orca_course.specs.declared.item.Losses.{Losses}
use Rattle.orca_course.specs.declared.refused.NoMemory.{NoMemory}
use Rattle.orca_edit.specs.Obeying.{piece_of}
use Rattle.orca_edit.specs.Pieces.{Piece}
use Rattle.orca_edit.specs.declared.machine.Machine.{Ghosts}
use Rattle.orca_jam.specs.Crews.{CrewState, away_in, fitted_crew, is_away, own_for, player_at}
use Rattle.orca_jam.specs.declared.crew.TheConstants.{LEADER}
use Rattle.orca_live.specs.declared.live.Live.{Live}
use Rattle.orca_live.specs.declared.setting.Setting.{Setting as HeldSetting}
use Rattle.orca_term.specs.Came.{came_to}
use Rattle.orca_term.specs.Pacing.{Pace}
use Rattle.orca_term.specs.Traffic.{FrameSent}
use Rattle.orca_term.specs.Viewing.{Seen}
use Rattle.orca_term.specs.declared.around.Around.{Around}
use Rattle.orca_term.specs.declared.came.Came.{Came}
use Rattle.orca_term.specs.declared.came.Came.TheVariants.{Well}
use Rattle.orca_term.specs.declared.cell.Cell.{Cell}
use Rattle.orca_term.specs.declared.cell.ScreenSize.{ScreenSize}
use Rattle.orca_term.specs.declared.editor.Editor.{Editor}
use Rattle.orca_term.specs.declared.keys.Key.{Key}
use Rattle.orca_term.specs.declared.status.StatusLine.{StatusLine}

-- the tempo in beats a minute at the start, the seed of the random operator, the name of the grid's
-- file, the names under which the grid and the script are saved at the end, the name of the
-- journal, which commands are added to while it plays, whether that is a room, which has its first
-- lines, and the screen at the start
pub record Setting : Type 0 where
  pub bpm : ℕ
  pub seed : ℕ
  pub grid : List ℕ
  pub save : Option (List ℕ)
  pub script : Option (List ℕ)
  pub journal : Option (List ℕ)
  pub room : Bool
  pub screen : ScreenSize

-- the same as the code holds it
abbrev pub setting_in : HeldSetting → Setting
setting_in set = record {
  bpm = set.bpm;
  seed = set.seed;
  grid = set.grid.now;
  save = option_map (λ name. name.now) set.save;
  script = option_map (λ name. name.now) set.script;
  journal = option_map (λ name. name.now) set.journal;
  room = set.room;
  screen = set.screen;
}

-- the name under which the key saves the grid
abbrev pub key_name : Setting → List ℕ
key_name set = unwrap_or set.save set.grid

-- the file that is begun: a journal; a room has begun
abbrev pub begun_name : Setting → Option (List ℕ)
begun_name set = if set.room then None else set.journal

-- what a hand is shown: the size of its terminal, as it was told last, and the last picture, if one
-- was painted
pub record Viewed : Type 0 where
  pub screen : ScreenSize
  pub shown : Option (List Cell)

-- a terminal of this size, for which nothing was painted
abbrev pub unpainted : ScreenSize → Viewed
unpainted d = record { screen = d; shown = None }

-- the same as the code holds it
abbrev pub viewed_in : Seen → Viewed
viewed_in view = record { screen = view.size; shown = view.last }

pub record LiveState : Type 0 where
  pub setting : Setting
  pub standing : Standing
  -- the keys and the editor of each hand, and whose each entry of the history is
  pub crew : CrewState
  pub pace : Pace
  -- what each hand is shown that has a picture, from the first one on
  pub views : List Viewed
  -- the commands so far, if a script is saved at the end
  pub given : Option (List Command)
  -- the lines of commands that are not yet added to the journal, if one is kept
  pub unwritten : List ℕ
  -- whether a command that a save of the grid would keep came after the last of them
  pub loose : Bool
  -- the moment of the last answer of the inbox
  pub at : ℕ
  -- what the calls came to, as it was told last
  pub came : Losses
  -- what the last key of each hand came to
  pub words : List Came
  -- the last frame of anybody that sent more than ends of notes
  pub sent : FrameSent

-- the state of a performance, by the ghost members of its session's bound. By this and by what its
-- session has to clear, and by nothing else, a contract of another crate sees it
abbrev pub live_state : {M : Type 0} → Ghosts M → Live M → LiveState
live_state g live = record {
  setting = setting_in live.setting;
  standing = standing_of g live.stage;
  crew = live.crew;
  pace = live.pacer;
  views = map viewed_in live.views.items;
  given = option_map (λ commands. commands.items) live.given;
  unwritten = live.unwritten.items;
  loose = live.loose;
  at = live.at;
  came = live.came;
  words = live.words;
  sent = live.stage.report.sent;
}

-- how much its session has to clear: it pays for steps that are still to come
abbrev pub residue_of : {M : Type 0} → Ghosts M → Live M → ℕ
residue_of g live = g.residue live.stage.machine

-- a performance stands where its session does, and hands its messages out
abbrev pub live_stance : Stance LiveState
live_stance = record { standing = λ s. Some s.standing; hands = true }

-- this was done of a course
abbrev pub LiveDid : {M : Type 0} → Ghosts M → (LiveState → Course LiveState Stop) → Live M → World
    → Result (Option Stop) NoMemory → Live M → World → Type 0
LiveDid g c l x result m y =
    Does live_stance (c (live_state g l)) (live_state g l) (owing (residue_of g l) x)
    result (live_state g m) (owing (residue_of g m) y)

-- the piece as it stands
abbrev pub piece_at : LiveState → Piece
piece_at s = piece_of s.standing.machine

-- the size of its grid
abbrev pub dims_at : LiveState → Size
dims_at s = (piece_at s).sheet.dims

-- the number of entries of its history
abbrev pub moments_at : LiveState → ℕ
moments_at s = length s.standing.machine.history

-- there is such a hand
abbrev pub is_hand : ℕ → LiveState → Bool
is_hand hand s = nat_lt hand (length s.crew.players)

-- the hands, in their order
abbrev pub hands_in : LiveState → List ℕ
hands_in s = range_with_len 0 (length s.crew.players)

-- the editor of a hand
abbrev pub editor_at : ℕ → LiveState → Editor
editor_at hand s = (player_at s.crew hand).editor

-- it reads a text that is pasted
abbrev pub reads_text : ℕ → LiveState → Bool
reads_text hand s = is_some (editor_at hand s).flow

-- that of the first one, whose pause holds
abbrev pub leader_at : LiveState → Editor
leader_at s = editor_at LEADER s

-- a hand is shown a picture
abbrev pub is_viewer : ℕ → LiveState → Bool
is_viewer hand s = nat_lt hand (length s.views)

-- and is there to see it
abbrev pub is_painted_for : ℕ → LiveState → Bool
is_painted_for hand s = is_viewer hand s && not (is_away s.crew hand)

-- what a hand is shown; the others are told of the screen of the start, and are shown nothing
abbrev pub view_at : ℕ → LiveState → Viewed
view_at hand s = slice_index_or s.views hand (unpainted s.setting.screen)

-- a hand is shown this, if it is shown a picture
abbrev pub with_view : ℕ → Viewed → LiveState → LiveState
with_view hand v s = record s { views = slice_set s.views hand v }

-- the screen that a hand is told
abbrev pub screen_at : ℕ → LiveState → ScreenSize
screen_at hand s = (view_at hand s).screen

-- what a key of a hand is told, where the editors are fitted to the grid
abbrev pub around_at : ℕ → Key → LiveState → Around
around_at hand key s =
    let e = editor_at hand s in
    let at : Place = record { y = e.y; x = e.x } in
    record {
      dims = dims_at s;
      moments = moments_at s;
      glyph = glyph_at (piece_at s).sheet at;
      screen = screen_at hand s;
      own = own_for key s.crew hand s.standing.machine.history;
    }

-- every editor is fitted to the grid
abbrev pub fitted : LiveState → LiveState
fitted s = record s { crew = fitted_crew (dims_at s) s.crew }

-- the history has as many entries as it may have
abbrev pub is_full : LiveState → Bool
is_full s = nat_le s.standing.machine.limit (moments_at s)

-- what the last key of a hand came to
abbrev pub word_at : ℕ → LiveState → Came
word_at hand s = slice_index_or s.words hand Well

-- the last key of a hand came to this
abbrev pub with_word : ℕ → Came → LiveState → LiveState
with_word hand came s = record s { words = slice_set s.words hand came }

-- what the status line of a hand tells besides its editor: with full keys what is lost, and what
-- the last key of the hand came to; with plain ones what the last command of anybody came to. That
-- the last save failed is told to the first hand alone
abbrev pub status_line_at : ℕ → LiveState → StatusLine
status_line_at hand s =
    let full = s.crew.full in
    record {
      tick = (piece_at s).tick;
      moments = moments_at s;
      sounding = length (notes_of s.standing);
      tempo = s.pace.bpm;
      no_midi = full && s.came.midi;
      no_udp = full && s.came.udp;
      no_osc = full && s.came.osc;
      no_journal = full && s.came.journal;
      away = away_in s.crew;
      unsaved = full && hand == LEADER && s.came.unsaved;
      warns = full;
      came = if full then word_at hand s else came_to s.standing.tally.refusal;
    }

-- the moment that a poll waits for: that of the next frame, and none while paused
abbrev pub until_at : LiveState → Option ℕ
until_at s = if (leader_at s).paused then None else Some s.pace.due

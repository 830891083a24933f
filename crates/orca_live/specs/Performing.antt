-- The definition of a performance: what is done for a key, for an item, and at the end.
use Rattle.std.specs.Prelude.{ℕ, zero, Bool, true, false, ◌||◌, nat_le, if◌then◌else◌, List, [], ◌∷◌, ◌++◌, length, slice_set, Option, Some, None, unwrap_or}
use Rattle.std.specs.Option.{option_map}
use Rattle.orca_base.specs.declared.command.Command.{Command}
use Rattle.orca_base.specs.declared.command.Command.TheVariants.{Clip, Copy, Frame, Hush, Reset}
use Rattle.orca_base.specs.declared.command.Rule.{Rule}
use Rattle.orca_base.specs.declared.port.Port.TheVariants as port
use Rattle.orca_base.specs.MarkSet.{MarkSet}
use Rattle.orca_concert.specs.Concerts.{Concert, concert_with, close_course as silence_course, command_course as obey_course}
use Rattle.orca_course.specs.Acts.{Act}
use Rattle.orca_course.specs.Acts.Act.{Append, Begin, Give, Save, Screen, Show, Strike, Tell}
use Rattle.orca_course.specs.Courses.{Course, course, each, ended, joined, mapped, onward, still}
use Rattle.orca_course.specs.Performers.{Part}
use Rattle.orca_course.specs.Standings.{Standing}
use Rattle.orca_course.specs.declared.ending.Stop.{Stop}
use Rattle.orca_course.specs.declared.ending.Stop.TheVariants.{Full, Left}
use Rattle.orca_course.specs.declared.item.Losses.{Losses}
use Rattle.orca_course.specs.declared.item.Item.{Item}
use Rattle.orca_course.specs.declared.item.Item.TheVariants as item
use Rattle.orca_edit.specs.Machines.{preview_of}
use Rattle.orca_edit.specs.Prices.{preview_price}
use Rattle.orca_grid.specs.GridText.{text_of}
use Rattle.orca_jam.specs.Crews.{CrewState, asked, cursors_beside, denial_at, denied_by, player_at, struck_by, took_by, turned_by}
use Rattle.orca_jam.specs.Denials.{denial_line, rule_of_denial}
use Rattle.orca_jam.specs.declared.denial.Denial.{Denial}
use Rattle.orca_jam.specs.declared.owner.TheConstants.{NOBODY}
use Rattle.orca_script.specs.Canonical.{printed}
use Rattle.orca_script.specs.Runs.{printed_header, printed_script}
use Rattle.orca_term.specs.Came.{came_to}
use Rattle.orca_term.specs.Keys.{Byte, Due, Item as KeyItem, turn}
use Rattle.orca_term.specs.Pacing.{due_after, faster, pace_from, retimed, slower}
use Rattle.orca_term.specs.Picture.{picture, scene_of, screen_inside}
use Rattle.orca_term.specs.Traffic.{FrameSent}
use Rattle.orca_term.specs.Viewing.{painting_bytes}
use Rattle.orca_term.specs.declared.came.Came.{Came}
use Rattle.orca_term.specs.declared.came.Came.TheVariants.{Denied, Kept, Well}
use Rattle.orca_term.specs.declared.cell.Cell.{Cell}
use Rattle.orca_term.specs.declared.cell.ScreenSize.{ScreenSize}
use Rattle.orca_term.specs.declared.editor.Editor.{Editor}
use Rattle.orca_term.specs.declared.editor.Wish.{Wish}
use Rattle.orca_term.specs.declared.editor.Wish.TheVariants as wish
use Rattle.orca_term.specs.declared.keys.Key.{Key}
use Rattle.orca_term.specs.declared.keys.Key.TheVariants as key
use Rattle.orca_term.specs.declared.overlay.Overlay.{Overlay}
use Rattle.orca_live.specs.Quiet.{quiet_manner}
use Rattle.orca_live.specs.States.{LiveState, around_at, begun_name, editor_at, fitted, hands_in, is_full, is_hand, is_painted_for, key_name, leader_at, live_stance, piece_at, reads_text, screen_at, status_line_at, unpainted, until_at, view_at, with_view, with_word}

-- what is done under a name, if there is one
abbrev pub if_named : Option (List ℕ) → (List ℕ → LiveState → Course LiveState Stop) → LiveState
    → Course LiveState Stop
if_named None next s = still s
if_named (Some name) next s = next name s

-- ---- commands

-- a course of the session alone, whose report keeps what a frame sent
abbrev pub of_session : (Concert FrameSent → Course (Concert FrameSent) Stop) → LiveState
    → Course LiveState Stop
of_session c s =
    mapped (λ t. record s { standing = t.standing; sent = t.kept }) (λ end. end)
    (c (concert_with s.standing s.sent))

-- the lines that wait for the journal after a command, if one is kept: its canonical line is last
abbrev pub noted : Option (List ℕ) → Command → List ℕ → List ℕ
noted None command lines = lines
noted (Some name) command lines = lines ++ printed command

-- a command is kept for the script, if one is saved, and its line waits for the journal
abbrev pub keeping_command : Command → LiveState → LiveState
keeping_command command s = record s {
  given = option_map (λ commands. commands ++ command ∷ []) s.given;
  unwritten = noted s.setting.journal command s.unwritten;
}

-- the hands after a command of one, or of nobody, which this rule refused, if one did, where the
-- history has n entries then. Whose they are is kept as far as there is room
abbrev pub owning : ℕ → Command → Option Rule → ℕ → CrewState → CrewState
owning who command (Some rule) n c = c
owning who command None n c = if nat_le n c.room then took_by who command n c else c

-- whether a command is one that a save of the grid would keep: a rule did not refuse it, it is no
-- frame, no Reset and no Hush, and it changes more than the clip
abbrev pub loosens : Command → Option Rule → Bool
loosens command (Some rule) = false
loosens Frame None = false
loosens Reset None = false
loosens Hush None = false
loosens (Copy rect) None = false
loosens (Clip y x glyph) None = false
loosens command None = true

-- a command of a hand, or of nobody, is kept, and led the session there; the hand is told what it
-- came to, and what a frame sent is kept
abbrev pub obeyed_by : ℕ → Command → LiveState → Standing → FrameSent → LiveState
obeyed_by who command s at sent = record (keeping_command command s) {
  standing = at;
  sent = sent;
  loose = s.loose || loosens command at.tally.refusal;
  crew = owning who command at.tally.refusal (length at.machine.history) s.crew;
  words = slice_set s.words who (came_to at.tally.refusal);
}

-- a command of a hand, or of nobody, is done
unfoldable pub hand_course : ℕ → Command → LiveState → Course LiveState Stop
hand_course who command s =
    mapped (λ t. obeyed_by who command s t.standing t.kept) (λ end. end)
    (obey_course quiet_manner 0 command (concert_with s.standing s.sent))

-- the grid is saved under this name. A save that fails is told of by what the calls came to
unfoldable pub save_course : List ℕ → LiveState → Course LiveState Stop
save_course name s =
    course (Save name (text_of (piece_at s).sheet) ∷ []) 0 (record s { loose = false })

-- the script of the commands, if they are kept
abbrev pub script_text : ℕ → Option (List Command) → List ℕ
script_text seed None = []
script_text seed (Some commands) = printed_script seed commands

-- it is saved under this name
unfoldable pub script_course : List ℕ → LiveState → Course LiveState Stop
script_course name s = course (Save name (script_text s.setting.seed s.given) ∷ []) 0 s

-- ---- the journal

-- it begins as a script does, with the line of the seed
unfoldable pub header_course : List ℕ → LiveState → Course LiveState Stop
header_course name s = course (Begin name (printed_header s.setting.seed) ∷ []) 0 s

-- it begins, if one is kept that has not begun
unfoldable pub journal_course : LiveState → Course LiveState Stop
journal_course s = if_named (begun_name s.setting) header_course s

-- bytes are added to the file of a name as one piece, unless there are none
abbrev pub additions : List ℕ → List ℕ → List Act
additions name [] = []
additions name bytes = Append name bytes ∷ []

-- the lines that wait are added under this name, and none waits then
unfoldable pub lines_course : List ℕ → LiveState → Course LiveState Stop
lines_course name s = course (additions name s.unwritten) 0 (record s { unwritten = [] })

-- they are added to the journal, if one is kept
unfoldable pub write_course : LiveState → Course LiveState Stop
write_course s = if_named s.setting.journal lines_course s

-- ---- keys

-- the pause has changed: a pacer starts where the performance goes on, at the tempo that it has
abbrev pub toggled : LiveState → LiveState
toggled s = if (leader_at s).paused then s else record s { pace = pace_from s.pace.bpm s.at }

-- the pacer takes another tempo
abbrev pub paced : ℕ → LiveState → LiveState
paced bpm s = record s { pace = retimed bpm s.pace }

-- from here on the terminal of a hand has this size, and shows whatever it shows
abbrev pub redrawn : ℕ → ScreenSize → LiveState → Course LiveState Stop
redrawn hand d s = course (Screen hand d ∷ []) 0 (with_view hand (unpainted d) s)

-- what a key of a hand asks for, once its editor has changed
unfoldable pub wish_course : ℕ → Wish → LiveState → Course LiveState Stop
wish_course hand wish.Nothing s = still s
wish_course hand (wish.Do command) s = hand_course hand command s
wish_course hand wish.Toggle s = still (toggled s)
wish_course hand wish.Save s = save_course (key_name s.setting) (with_word hand Kept s)
wish_course hand wish.Quit s = ended Left s
wish_course hand (wish.Slower beats) s = still (paced (slower beats s.pace.bpm) s)
wish_course hand (wish.Faster beats) s = still (paced (faster beats s.pace.bpm) s)
wish_course hand (wish.Redraw size) s =
    redrawn hand (screen_inside (unwrap_or size (screen_at hand s))) s

-- a hand is told why its key is denied
abbrev pub telling : ℕ → Denial → Act
telling hand denial = Give (record { port = port.Fault; bytes = denial_line hand denial })

unfoldable pub denied_course : ℕ → Denial → LiveState → Course LiveState Stop
denied_course hand denial s =
    course (telling hand denial ∷ []) 0 (with_word hand (Denied (rule_of_denial denial)) s)

-- a key of a hand, where the editors are fitted to the grid, and why it is denied, if it is: then
-- it closes a page of help, and changes no editor otherwise
abbrev pub struck_where : ℕ → Key → LiveState → Option Denial → Course LiveState Stop
struck_where hand key s (Some denial) =
    denied_course hand denial (record s { crew = denied_by hand key s.crew })
struck_where hand key s None =
    let around = around_at hand key s in
    wish_course hand (asked s.crew hand key around)
    (record s { crew = struck_by hand key around s.crew })

-- a key of a hand, where the editors are fitted to the grid
unfoldable pub struck_course : ℕ → Key → LiveState → Course LiveState Stop
struck_course hand key s =
    struck_where hand key s (denial_at s.crew hand key (around_at hand key s))

-- what a key of a hand does
unfoldable pub key_course : ℕ → Key → LiveState → Course LiveState Stop
key_course hand key s = struck_course hand key (fitted s)

-- what keys came to, once a key of a hand is struck: all is well so far, unless it is the key by
-- which a terminal tells its size
abbrev pub words_at_key : ℕ → Key → List Came → List Came
words_at_key hand (key.Screen rows columns) words = words
words_at_key hand _ words = slice_set words hand Well

abbrev pub struck_well : ℕ → Key → LiveState → LiveState
struck_well hand key s = record s { words = words_at_key hand key s.words }

-- a key of a hand that was ended: it is struck, and the editor of this hand follows it
unfoldable pub press_course : ℕ → Key → LiveState → Course LiveState Stop
press_course hand key s =
    let t = struck_well hand key s in
    joined (course {E = Stop} (Strike hand key ∷ []) 0 t) (key_course hand key t)

-- keys of a hand, in their order: each as if it had come by itself
unfoldable pub keys_course : ℕ → List Key → LiveState → Course LiveState Stop
keys_course hand keys s = each (press_course hand) keys s

-- the reader of a hand is given an item: a byte, or that nothing came for a while
unfoldable pub read_course : ℕ → KeyItem → LiveState → Course LiveState Stop
read_course hand item s =
    keys_course hand (turn s.crew.full (player_at s.crew hand).keys item).keys
    (record s { crew = turned_by hand item s.crew })

-- an item of a hand. What comes of a hand that there is not is dropped
unfoldable pub item_course : ℕ → KeyItem → LiveState → Course LiveState Stop
item_course hand item s = if is_hand hand s then read_course hand item s else still s

-- a byte of a hand
unfoldable pub byte_course : ℕ → ℕ → LiveState → Course LiveState Stop
byte_course hand byte s = item_course hand (Byte byte) s

-- ---- the clock

-- the pacer is told the moment of the answer
abbrev pub fired : LiveState → LiveState
fired s = record s { pace = record s.pace { due = due_after s.pace s.at } }

-- a frame is played; a full history ends the performance
unfoldable pub frame_course : LiveState → Course LiveState Stop
frame_course s =
    if is_full s then ended Full s
    else onward (hand_course NOBODY Frame s) (λ t. still (fired t))

-- nothing came of a hand for a while: what is pending may be keys then. The text that a hand pastes
-- may be cut anywhere, so to one that reads a text this says nothing
unfoldable pub lull_of : ℕ → LiveState → Course LiveState Stop
lull_of hand s = if reads_text hand s then still s else item_course hand Due s

-- of each hand, in their order
unfoldable pub lull_course : LiveState → Course LiveState Stop
lull_course s = each lull_of (hands_in s) s

-- a frame is due: nothing came for a while, and then the frame is played
unfoldable pub due_course : LiveState → Course LiveState Stop
due_course s = onward (lull_course s) frame_course

-- ---- what is shown

-- a painting goes to its hand as one piece, unless it is empty: that of the first one is sent, and
-- the others are told theirs
abbrev pub view_acts : ℕ → List ℕ → List Act
view_acts hand [] = []
view_acts zero bytes = Give (record { port = port.View; bytes = bytes }) ∷ []
view_acts hand bytes = Tell hand bytes ∷ []

-- the editor of a hand as its picture shows it: with the pause of the first one
abbrev pub painted_editor : ℕ → LiveState → Editor
painted_editor hand s = record (editor_at hand s) { paused = (leader_at s).paused }

-- what its picture lays over the grid: that, and the cursors of the other hands, where each hand
-- has a picture
abbrev pub overlay_at : ℕ → LiveState → Overlay
overlay_at hand s =
    record { editor = painted_editor hand s; others = cursors_beside s.crew hand }

-- the picture of a hand on its screen, with these marks
abbrev pub picture_for : ℕ → List MarkSet → LiveState → List Cell
picture_for hand marks s =
    picture (screen_at hand s) (scene_of (piece_at s).sheet marks (overlay_at hand s)) s.sent
    (status_line_at hand s)

-- the picture of a hand is painted, where the editors are fitted to the grid
unfoldable pub picture_course : List MarkSet → ℕ → LiveState → Course LiveState Stop
picture_course marks hand s =
    let v = view_at hand s in
    let cells = picture_for hand marks s in
    course (view_acts hand (painting_bytes v.screen v.shown cells) ++ Show hand cells ∷ []) 0
    (with_view hand (record v { shown = Some cells }) s)

-- if it is shown one, and is not away
unfoldable pub painted_course : List MarkSet → ℕ → LiveState → Course LiveState Stop
painted_course marks hand s =
    if is_painted_for hand s then picture_course marks hand s else still s

-- the pictures with these marks are painted, in the order of the hands
unfoldable pub paint_course : List MarkSet → LiveState → Course LiveState Stop
paint_course marks s = each (painted_course marks) (hands_in s) (fitted s)

-- a scan of the piece as it stands
unfoldable pub preview_course : LiveState → Course LiveState Stop
preview_course s = course [] (preview_price (piece_at s)) s

-- the pictures with the marks of a scan
unfoldable pub show_course : LiveState → Course LiveState Stop
show_course s = joined (preview_course s) (paint_course (preview_of (piece_at s)) s)

-- ---- the end

-- every note ends
unfoldable pub hush_course : LiveState → Course LiveState Stop
hush_course s = of_session (silence_course quiet_manner) s

-- the grid is saved at the end, if it has a name
unfoldable pub last_grid_course : LiveState → Course LiveState Stop
last_grid_course s = if_named s.setting.save save_course s

-- the script is saved at the end, if it has a name
unfoldable pub last_script_course : LiveState → Course LiveState Stop
last_script_course s = if_named s.setting.script script_course s

-- what is saved at the end
unfoldable pub saves_course : LiveState → Course LiveState Stop
saves_course s = onward (last_grid_course s) last_script_course

-- the end, however it came: every note ends, then the commands of the last answer are written, and
-- then the grid and the script are saved
unfoldable pub finish_course : LiveState → Course LiveState Stop
finish_course s = onward (hush_course s) (λ t. onward (write_course t) saves_course)

-- ---- a performance

-- the moment of an item is kept
abbrev pub answered_at : ℕ → LiveState → LiveState
answered_at at s = record s { at = at }

-- and so is what the calls came to
abbrev pub knowing : Losses → LiveState → LiveState
knowing came s = record s { came = came }

-- what an item brings. The journal begins before the first pictures, which have no marks; and after
-- an answer it is brought up to date before the pictures are. So these know what came of it
unfoldable pub take_course : Item → LiveState → Course LiveState Stop
take_course item.Start s = journal_course s
take_course (item.Open came) s = paint_course [] (knowing came s)
take_course (item.Byte hand at byte) s = byte_course hand byte (answered_at at s)
take_course (item.Due at) s = due_course (answered_at at s)
take_course item.Settle s = write_course s
take_course (item.Over came) s = show_course (knowing came s)
take_course (item.Ended ending) s = finish_course s

-- what a player does
abbrev pub live_part : Part LiveState
live_part = record {
  stance = live_stance;
  until = until_at;
  takes = take_course;
  seats = λ s. length s.views;
}

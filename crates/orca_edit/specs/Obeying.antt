-- A session as a machine: what it does with a command, and when it refuses one.
use Rattle.std.specs.Prelude.{ℕ, ◌+◌, ◌-◌, ◌==◌, Bool, true, false, not, ◌&&◌, ◌||◌, nat_le, nat_lt, min, if◌then◌else◌, List, [], ◌∷◌, ◌++◌, length, take, drop, Option, Some, None, is_none, Result, Ok, Err}
use Rattle.std.specs.List.{list_all, remove}
use Rattle.std.specs.Option.{option_map, option_map_or}
use Rattle.orca_base.specs.declared.area.Area.{Area}
use Rattle.orca_base.specs.declared.area.Rect.{Rect}
use Rattle.orca_base.specs.declared.command.Command.{Command}
use Rattle.orca_base.specs.declared.command.Command.TheVariants as command
use Rattle.orca_base.specs.declared.command.Entry.{Entry}
use Rattle.orca_base.specs.declared.command.Entry.TheVariants as entry
use Rattle.orca_base.specs.declared.command.Reply.{Reply}
use Rattle.orca_base.specs.declared.command.Reply.TheVariants.{Edited, Copied, Framed, Jumped, Redone, Retracted}
use Rattle.orca_base.specs.declared.command.Rule.{Rule}
use Rattle.orca_base.specs.declared.command.Rule.TheVariants.{OutOfGrid, EmptyBlock, BadSize, EmptyClip, NothingToUndo, NoSuchMoment, SizeInUse, HistoryFull, NothingToRedo}
use Rattle.orca_base.specs.declared.limits.TheConstants.{MAX_ROWS, MAX_COLUMNS}
use Rattle.orca_base.specs.declared.message.Message.{Message}
use Rattle.orca_base.specs.declared.place.Place.{Place}
use Rattle.orca_base.specs.Areas.{area_in, area_at}
use Rattle.orca_base.specs.Edits.{block_of, clipped, origin}
use Rattle.orca_base.specs.Glyphs.{empty}
use Rattle.orca_base.specs.Grids.{Size, Sheet, is_inside, is_place, largest}
use Rattle.orca_base.specs.Histories.{done_of, group_of, is_size_used, last_edit}
use Rattle.orca_notes.specs.Sound.{ends}
use Rattle.orca_edit.specs.Pieces.{Piece, apply, piece_after}

-- a session: the opened grid, the seed, the most entries that its history may have, the history
-- since the opened grid, the clip, how many entries the history had at the last close, and the tail:
-- the entries that jumps cut off since the last one was added, the next to come back first
pub record MachineState : Type 0 where
  pub opened : Sheet
  pub seed : ℕ
  pub limit : ℕ
  pub history : List Entry
  pub clip : Option Sheet
  pub closed : ℕ
  pub tail : List Entry

-- a session with an opened grid
abbrev pub machine_at_start : Sheet → ℕ → ℕ → MachineState
machine_at_start sheet seed limit = record {
  opened = sheet;
  seed = seed;
  limit = limit;
  history = [];
  clip = None;
  closed = 0;
  tail = [];
}

-- the piece as it stands: the opened grid after the history
abbrev pub piece_of : MachineState → Piece
piece_of m = piece_after m.opened m.seed m.history m.closed

-- the place of a row and a column
abbrev pub place : ℕ → ℕ → Place
place y x = record { y = y; x = x }

-- the first place of a block
abbrev pub anchor_of : Rect → Place
anchor_of rect = place rect.y rect.x

-- the places that a command names
abbrev pub named_places : Command → List Place
named_places (command.Write y x glyph) = place y x ∷ []
named_places (command.Fill rect glyph) = anchor_of rect ∷ []
named_places (command.Erase rect) = anchor_of rect ∷ []
named_places (command.Copy rect) = anchor_of rect ∷ []
named_places (command.Cut rect) = anchor_of rect ∷ []
named_places (command.Paste y x) = place y x ∷ []
named_places (command.Move rect to_y to_x) = anchor_of rect ∷ place to_y to_x ∷ []
named_places _ = []

-- the block that a command names
abbrev pub named_rect : Command → Option Rect
named_rect (command.Fill rect glyph) = Some rect
named_rect (command.Erase rect) = Some rect
named_rect (command.Copy rect) = Some rect
named_rect (command.Cut rect) = Some rect
named_rect (command.Move rect to_y to_x) = Some rect
named_rect _ = None

-- OutOfGrid: a place that the command names isn't in the grid
abbrev pub names_outside : Size → Command → Bool
names_outside d c = not (list_all (is_inside d) (named_places c))

-- EmptyBlock: a side of the block that the command names is 0
abbrev pub names_empty_block : Command → Bool
names_empty_block c =
    option_map_or (λ rect. (rect.h == 0) || (rect.w == 0)) (named_rect c) false

-- BadSize: a side of Resize is 0 or too long, or the largest grid lacks the cell of a Clip
abbrev pub names_bad_size : Command → Bool
names_bad_size (command.Resize h w) =
    not (nat_le 1 h && nat_le h MAX_ROWS && nat_le 1 w && nat_le w MAX_COLUMNS)
names_bad_size (command.Clip y x glyph) = not (is_inside largest (place y x))
names_bad_size _ = false

-- EmptyClip: a Paste, or a Clip of another cell than the first, and there is no clip so far
abbrev pub wants_clip : Option Sheet → Command → Bool
wants_clip clip (command.Paste y x) = is_none clip
wants_clip clip (command.Clip y x glyph) = is_none clip && not (is_place (place y x) origin)
wants_clip clip _ = false

-- NothingToUndo: an Undo, and the history holds no edit, or a Retract of an entry that there isn't
abbrev pub undoes_nothing : List Entry → Command → Bool
undoes_nothing history command.Undo = is_none (last_edit history)
undoes_nothing history (command.Retract moment) = nat_le (length history) moment
undoes_nothing history _ = false

-- NoSuchMoment: a Rewind to a moment that isn't below the count of the entries
abbrev pub rewinds_too_far : List Entry → Command → Bool
rewinds_too_far history (command.Rewind moment) = nat_le (length history) moment
rewinds_too_far history _ = false

-- SizeInUse: a Retract of a change of size, and an edit of the grid stands after it
abbrev pub takes_used_size : List Entry → Command → Bool
takes_used_size history (command.Retract moment) = is_size_used (drop moment history)
takes_used_size history _ = false

-- a command that adds an entry of its own to the history; a jump cuts or mends the history, and a
-- Retract leaves it as long as it was
abbrev pub adds_entry : Command → Bool
adds_entry (command.Copy rect) = false
adds_entry (command.Clip y x glyph) = false
adds_entry command.Undo = false
adds_entry (command.Rewind moment) = false
adds_entry command.Redo = false
adds_entry (command.Retract moment) = false
adds_entry _ = true

-- a Redo, and there is something to bring back
abbrev pub redoes : List Entry → Command → Bool
redoes tail command.Redo = nat_lt 0 (length tail)
redoes tail _ = false

-- HistoryFull: a command that adds an entry, and the history has as many as it may have, or a Redo of
-- more entries than it has room for
abbrev pub has_no_room : ℕ → List Entry → List Entry → Command → Bool
has_no_room limit history tail c =
    (adds_entry c && nat_le limit (length history))
    || (redoes tail c && nat_lt limit (length history + group_of tail))

-- NothingToRedo: a Redo, and the tail is empty
abbrev pub redoes_nothing : List Entry → Command → Bool
redoes_nothing tail command.Redo = length tail == 0
redoes_nothing tail _ = false

-- a rule, and whether it stands
pub record Test : Type 0 where
  pub rule : Rule
  pub stands : Bool

abbrev pub test : Rule → Bool → Test
test rule stands = record { rule = rule; stands = stands }

-- the first rule that stands
abbrev pub first_standing : List Test → Option Rule
first_standing [] = None
first_standing (t ∷ ts) = if t.stands then Some t.rule else first_standing ts

-- the rules on the places, the block and the size that a command names, and on the clip, in order
abbrev pub block_tests : Size → Option Sheet → Command → List Test
block_tests d clip c =
    test OutOfGrid (names_outside d c)
    ∷ test EmptyBlock (names_empty_block c)
    ∷ test BadSize (names_bad_size c)
    ∷ test EmptyClip (wants_clip clip c)
    ∷ []

-- the rules on the history, in order
abbrev pub history_tests : ℕ → List Entry → List Entry → Command → List Test
history_tests limit history tail c =
    test NothingToUndo (undoes_nothing history c)
    ∷ test (NoSuchMoment (length history)) (rewinds_too_far history c)
    ∷ test SizeInUse (takes_used_size history c)
    ∷ test HistoryFull (has_no_room limit history tail c)
    ∷ test NothingToRedo (redoes_nothing tail c)
    ∷ []

-- the rule that refuses a command for its places and its block, in a grid of this size and with
-- this clip
unfoldable pub block_rule : Size → Option Sheet → Command → Option Rule
block_rule d clip c = first_standing (block_tests d clip c)

-- the rule that refuses a command
unfoldable pub rule_against : MachineState → Command → Option Rule
rule_against m c =
    first_standing
    (block_tests (piece_of m).sheet.dims m.clip c ++ history_tests m.limit m.history m.tail c)

-- the entry of a command in a grid of this size with this clip: a block is cut to the grid
unfoldable pub entry_of : Size → Option Sheet → Command → Option Entry
entry_of d clip command.Frame = Some entry.Frame
entry_of d clip (command.Write y x glyph) = Some (entry.Fill (area_at (place y x)) glyph)
entry_of d clip (command.Fill rect glyph) = Some (entry.Fill (area_in d rect) glyph)
entry_of d clip (command.Erase rect) = Some (entry.Fill (area_in d rect) empty)
entry_of d clip (command.Copy rect) = None
entry_of d clip (command.Cut rect) = Some (entry.Fill (area_in d rect) empty)
entry_of d clip (command.Clip y x glyph) = None
entry_of d clip (command.Paste y x) = option_map (entry.Put (place y x)) clip
entry_of d clip (command.Move rect to_y to_x) =
    Some (entry.Move (area_in d rect) (place to_y to_x))
entry_of d clip (command.Resize h w) = Some (entry.Resize (record { h = h; w = w }))
entry_of d clip command.Reset = Some entry.Reset
entry_of d clip command.Undo = None
entry_of d clip (command.Rewind moment) = None
entry_of d clip command.Redo = None
entry_of d clip (command.Retract moment) = None
entry_of d clip command.Hush = Some entry.Hush

-- the area that becomes the clip
unfoldable pub taken_area : Size → Command → Option Area
taken_area d (command.Copy rect) = Some (area_in d rect)
taken_area d (command.Cut rect) = Some (area_in d rect)
taken_area d _ = None

-- the clip after a command: the glyphs that it takes, as they stand before it
abbrev pub clip_after : Option Sheet → Sheet → Option Area → Option Sheet
clip_after clip sheet None = clip
clip_after clip sheet (Some area) = Some (block_of sheet area)

-- the answer to a command, the session after it, and the messages
pub record Obeyed : Type 0 where
  pub answer : Result Reply Rule
  pub machine : MachineState
  pub messages : List Message

-- a refused command changes nothing
abbrev pub refuse : MachineState → Rule → Obeyed
refuse m rule = record { answer = Err rule; machine = m; messages = [] }

-- an undo or a rewind keeps the first entries, ends every note, and puts what it cuts off before the
-- tail
unfoldable pub jump_to : MachineState → ℕ → Obeyed
jump_to m moment = record {
  answer = Ok (Jumped moment);
  machine = record m {
    history = take moment m.history ++ entry.Hush ∷ [];
    closed = min m.closed (moment + 1);
    tail = done_of (drop moment m.history) ++ m.tail;
  };
  messages = ends (piece_of m).notes;
}

-- the history after a redo: the group comes back before the end of the last jump
abbrev pub history_redone : List Entry → List Entry → List Entry
history_redone history tail =
    take (length history - 1) history ++ (take (group_of tail) tail ++ entry.Hush ∷ [])

-- a redo brings back the first group of the tail
unfoldable pub redo : MachineState → Obeyed
redo m = record {
  answer = Ok (Redone (group_of m.tail));
  machine = record m {
    history = history_redone m.history m.tail;
    tail = drop (group_of m.tail) m.tail;
  };
  messages = [];
}

-- a Retract takes one entry out of the history, and leaves all others in order; every note ends, and
-- nothing can come back
unfoldable pub retract : MachineState → ℕ → Obeyed
retract m moment = record {
  answer = Ok (Retracted moment);
  machine = record m { history = remove m.history moment ++ entry.Hush ∷ []; tail = [] };
  messages = ends (piece_of m).notes;
}

-- the answer to a command that adds an entry
abbrev pub reply_of : Command → Piece → Reply
reply_of command.Frame p = Framed p.tick
reply_of _ p = Edited

-- an entry is added, with its messages; what was cut off can't come back any more
abbrev pub extend : MachineState → Command → Option Sheet → Entry → Obeyed
extend m c clip e = record {
  answer = Ok (reply_of c (piece_of m));
  machine = record m { history = m.history ++ e ∷ []; clip = clip; tail = [] };
  messages = (apply (piece_of m) e).messages;
}

-- a command without an entry of its own changes the clip alone
abbrev pub carry_out : MachineState → Command → Option Sheet → Option Entry → Obeyed
carry_out m c clip None =
    record { answer = Ok Copied; machine = record m { clip = clip }; messages = [] }
carry_out m c clip (Some e) = extend m c clip e

-- what is done with a command against which no rule stands
unfoldable pub accept : MachineState → Command → Obeyed
accept m command.Undo = option_map_or (jump_to m) (last_edit m.history) (refuse m NothingToUndo)
accept m (command.Rewind moment) = jump_to m moment
accept m command.Redo = redo m
accept m (command.Retract moment) = retract m moment
accept m (command.Clip y x glyph) =
    carry_out m (command.Clip y x glyph) (clipped m.clip (place y x) glyph) None
accept m c =
    carry_out m c (clip_after m.clip (piece_of m).sheet (taken_area (piece_of m).sheet.dims c))
    (entry_of (piece_of m).sheet.dims m.clip c)

-- what a session does with a command
unfoldable pub obey : MachineState → Command → Obeyed
obey m c = option_map_or (refuse m) (rule_against m c) (accept m c)

-- the session after a close: every note ends
abbrev pub machine_closed : MachineState → MachineState
machine_closed m = record m { closed = length m.history }

-- What the commands of a session may cost at most, in steps, and the numbers that a session keeps
-- to go back and forward within these prices.
use Rattle.std.specs.Prelude.{ℕ, ◌+◌, ◌-◌, ◌*◌, ◌/◌, ◌%◌, ◌==◌, ◌≤◌, Bool, nat_le, max, min, if◌then◌else◌, length, take, unwrap_or, slice_get, fold, sum_by, Result, Ok, Err}
use Rattle.std.specs.List.{range_with_len}
use Rattle.std.specs.Option.{option_map_or}
use Rattle.orca_base.specs.declared.command.Command.{Command}
use Rattle.orca_base.specs.declared.command.Entry.{Entry}
use Rattle.orca_base.specs.declared.command.Entry.TheVariants.{Fill, Put, Move, Resize, Reset, Frame, Hush}
use Rattle.orca_base.specs.declared.command.Fault.{Fault}
use Rattle.orca_base.specs.declared.command.Fault.TheVariants.{Refused, Memory}
use Rattle.orca_base.specs.declared.command.Reply.{Reply}
use Rattle.orca_base.specs.declared.command.Reply.TheVariants.{Edited, Copied, Framed, Jumped, Redone, Retracted}
use Rattle.orca_base.specs.declared.command.Rule.{Rule}
use Rattle.orca_base.specs.declared.limits.TheConstants.{COMMAND_PRICE, OPERATOR_PRICE, TOUCH_PRICE, FIRST_SPACING, MAX_CHECKPOINTS, KEPT_PATCHES, KEPT_TOUCHED}
use Rattle.orca_base.specs.Grids.{cells_of}
use Rattle.orca_board.specs.Blocks.{put_places, shift_places}
use Rattle.orca_op.specs.First.{first_where}
use Rattle.orca_op.specs.Scan.{busy, written_places}
use Rattle.orca_edit.specs.Obeying.{MachineState, entry_of, obey, piece_of}
use Rattle.orca_edit.specs.Pieces.{Piece, next_frame, piece_after}

-- ---- one entry

-- how many cells an entry touches: those that a frame writes, the area of a fill, the block's cells
-- inside the grid, a moved area together with its image, and all cells of both sizes
abbrev pub touched : Piece → Entry → ℕ
touched p (Fill area glyph) = area.h * area.w
touched p (Put at block) = length (put_places p.sheet.dims at block.dims)
touched p (Move area to) = length (shift_places p.sheet.dims area to)
touched p (Resize dims) = cells_of p.sheet.dims + cells_of dims
touched p Reset = 0
touched p Frame = length (written_places p.sheet (next_frame p))
touched p Hush = 0

-- what an entry costs by the cells that it touches; to undo it costs the same
abbrev pub change_price : Piece → Entry → ℕ
change_price p entry = COMMAND_PRICE + TOUCH_PRICE * touched p entry

-- what the next frame costs: its rows, and the operators that its scan reaches
abbrev pub preview_price : Piece → ℕ
preview_price p = COMMAND_PRICE + p.sheet.dims.h + OPERATOR_PRICE * busy p.sheet (next_frame p)

-- what an entry costs, applied to a piece
abbrev pub price : Piece → Entry → ℕ
price p Frame = preview_price p
price p entry = change_price p entry

-- ---- many entries

-- the piece of a moment: that after the first so many entries
abbrev pub moment_piece : MachineState → ℕ → Piece
moment_piece m moment = piece_after m.opened m.seed (take moment m.history) m.closed

-- a number of an entry at its moment
abbrev pub of_entry : (Piece → Entry → ℕ) → MachineState → ℕ → ℕ
of_entry f m n = option_map_or (f (moment_piece m n)) (slice_get m.history n) 0

-- the sum of such numbers over the entries from one moment up to another
unfoldable pub total : (Piece → Entry → ℕ) → MachineState → ℕ → ℕ → ℕ
total f m from to = sum_by (of_entry f m) (range_with_len from (to - from))

-- ---- the kept numbers

-- the first entry that is undone by its patch, how many entries lie between two checkpoints, and
-- the most entries that the history has had
pub record Kept : Type 0 where
  pub first : ℕ
  pub spacing : ℕ
  pub peak : ℕ

abbrev pub kept_at_start : Kept
kept_at_start = record { first = 0; spacing = FIRST_SPACING; peak = 0 }

-- the entries from this one on touched few enough cells together
abbrev pub fits_from : MachineState → ℕ → Bool
fits_from m from = nat_le (total touched m from (length m.history)) KEPT_TOUCHED

-- the least number, not below the first one so far, such that the entries from it on are few and
-- touched few cells
unfoldable pub least_first : MachineState → ℕ → ℕ
least_first m first =
    let n = length m.history in
    let least = max first (n - KEPT_PATCHES) in
    unwrap_or (first_where (fits_from m) least (n - least)) n

-- the spacing once the history has n entries: twice as wide where one checkpoint more would be too
-- many
abbrev pub spaced : ℕ → ℕ → ℕ
spaced spacing n = if n == MAX_CHECKPOINTS * spacing then 2 * spacing else spacing

-- how far checkpoints lie apart: at the multiples of the spacing there are at most MAX_CHECKPOINTS,
-- and it is at most that of the start, or a 32nd of the longest history
pub record IsSpaced (m : MachineState) (k : Kept) : Type 0 where
  pub few : length m.history / k.spacing + 1 ≤ MAX_CHECKPOINTS
  pub least : FIRST_SPACING ≤ k.spacing
  pub most : k.spacing ≤ max FIRST_SPACING (k.peak / 32)

-- after an entry was added, which led to this machine
abbrev pub pushed : MachineState → Kept → Kept
pushed m k = record {
  first = least_first m k.first;
  spacing = spaced k.spacing (length m.history);
  peak = max k.peak (length m.history);
}

-- after a jump to a moment, which led to this machine
abbrev pub jumped : MachineState → Kept → ℕ → Kept
jumped m k moment = pushed m (record k { first = min k.first moment })

-- after a redo of so many entries, which led to this machine: its last entry alone has a patch. The
-- history had each length from the one before it up to the one after it
abbrev pub kept_redone : MachineState → Kept → ℕ → Kept
kept_redone m k group =
    let n = length m.history in
    record {
      first = n - 1;
      spacing = fold spaced k.spacing (range_with_len (n - group) (group + 1));
      peak = max k.peak n;
    }

-- after a Retract, which led to this machine: its last entry alone has a patch
abbrev pub kept_retracted : MachineState → Kept → Kept
kept_retracted m k = record k { first = length m.history - 1 }

-- after a reply that led to this machine; a copy adds nothing to the history, and changes nothing
abbrev pub kept_by : Reply → MachineState → Kept → Kept
kept_by Edited m k = pushed m k
kept_by (Framed tick) m k = pushed m k
kept_by (Jumped moment) m k = jumped m k moment
kept_by (Redone group) m k = kept_redone m k group
kept_by (Retracted moment) m k = kept_retracted m k
kept_by Copied m k = k

-- after a command, by its answer; one that was refused, or had no memory, changes nothing
unfoldable pub kept_after : MachineState → Kept → Command → Result Reply Fault → Kept
kept_after m k c (Ok reply) = kept_by reply (obey m c).machine k
kept_after m k c (Err fault) = k

-- ---- bills

-- the cells of the grid of a moment, if a checkpoint of it is due
abbrev pub kept_cells : ℕ → MachineState → ℕ → ℕ
kept_cells spacing m moment =
    if moment % spacing == 0 then cells_of (moment_piece m moment).sheet.dims else 0

-- the cells of the new grid, if a checkpoint of it is due
abbrev pub new_cells : ℕ → MachineState → ℕ
new_cells spacing m = kept_cells spacing m (length m.history)

-- the moment of the best checkpoint for a moment
abbrev pub best_moment : ℕ → ℕ → ℕ
best_moment spacing moment = spacing * (moment / spacing)

-- going back entry by entry
abbrev pub undo_price : MachineState → ℕ → ℕ
undo_price m moment = COMMAND_PRICE + total change_price m moment (length m.history)

-- loading a checkpoint, and going on from there entry by entry
abbrev pub load_price : MachineState → ℕ → ℕ → ℕ
load_price m from moment =
    COMMAND_PRICE + cells_of (piece_of m).sheet.dims + cells_of (moment_piece m from).sheet.dims
    + total price m from moment

-- a jump to a moment, from this machine
abbrev pub jump_price : MachineState → Kept → ℕ → ℕ
jump_price m k moment =
    if nat_le k.first moment then undo_price m moment
    else load_price m (best_moment k.spacing moment) moment

-- a redo of so many entries, which led to this machine: each of them, and each checkpoint on the
-- way
abbrev pub redo_price : MachineState → Kept → ℕ → ℕ
redo_price m k group =
    let n = length m.history in
    COMMAND_PRICE + total price m (n - group - 1) (n - 1)
    + sum_by (kept_cells k.spacing m) (range_with_len (n - group) (group + 1))

-- a Retract of a moment, which led to the machine after it: loading a checkpoint, each entry from
-- there up to the last one, and each checkpoint on the way
abbrev pub retract_price : MachineState → Kept → ℕ → MachineState → ℕ
retract_price m k moment after =
    let n = length after.history in
    let best = best_moment k.spacing moment in
    COMMAND_PRICE + cells_of (piece_of m).sheet.dims + cells_of (moment_piece m best).sheet.dims
    + total price after best (n - 1)
    + sum_by (kept_cells k.spacing after) (range_with_len (best + 1) (n - best))

-- a command that adds an entry, without a checkpoint; one without an entry changes the clip alone
abbrev pub entry_price : MachineState → Command → ℕ
entry_price m c =
    option_map_or (price (piece_of m)) (entry_of (piece_of m).sheet.dims m.clip c) COMMAND_PRICE

-- the bill of a command by its answer, with the machine after it
abbrev pub bill_of : Result Reply Rule → MachineState → Kept → Command → MachineState → ℕ
bill_of (Err rule) m k c after = COMMAND_PRICE
bill_of (Ok Copied) m k c after = COMMAND_PRICE
bill_of (Ok Edited) m k c after = entry_price m c + new_cells k.spacing after
bill_of (Ok (Framed tick)) m k c after = entry_price m c + new_cells k.spacing after
bill_of (Ok (Jumped moment)) m k c after = jump_price m k moment + new_cells k.spacing after
bill_of (Ok (Redone group)) m k c after = redo_price after k group
bill_of (Ok (Retracted moment)) m k c after = retract_price m k moment after

-- the bill of a command: what a session may take for it at most
unfoldable pub bill : MachineState → Kept → Command → ℕ
bill m k c = bill_of (obey m c).answer m k c (obey m c).machine

-- what may have been taken, by the answer: the bill, but without a checkpoint where memory was
-- refused
unfoldable pub charge : Result Reply Fault → MachineState → Kept → Command → ℕ
charge (Ok reply) m k c = bill m k c
charge (Err (Refused rule)) m k c = COMMAND_PRICE
charge (Err Memory) m k c = entry_price m c

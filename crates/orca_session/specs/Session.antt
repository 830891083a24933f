-- What a contract sees of a session, and how its parts stand for the machine.
use Rattle.std.specs.Prelude.{ℕ, ◌≡◌, List, Option, Some, None}
use Rattle.std.specs.Option.{option_map_or}
use Rattle.orca_base.specs.declared.command.Command.{Command}
use Rattle.orca_base.specs.declared.command.Command.TheVariants as command
use Rattle.orca_base.specs.declared.command.Entry.{Entry}
use Rattle.orca_base.specs.declared.limits.TheConstants.{COMMAND_PRICE}
use Rattle.orca_base.specs.declared.note.Note.{Note}
use Rattle.orca_base.specs.Grids.{Sheet}
use Rattle.orca_base.specs.MarkSet.{MarkSet}
use Rattle.orca_edit.specs.Obeying.{MachineState, machine_at_start}
use Rattle.orca_edit.specs.Pieces.{Piece}
use Rattle.orca_edit.specs.Prices.{Kept, kept_at_start, price}
use Rattle.orca_op.specs.Slate.{Slate}
use Rattle.orca_op.specs.State.{blank_marks, sheet_of}
use Rattle.orca_session.specs.Past.{PastState, present}

-- the machine that a session means, the numbers that it keeps, how much its board has to clear, and
-- the marks that it shows
pub record SessionState : Type 0 where
  pub machine : MachineState
  pub kept : Kept
  pub residue : ℕ
  pub marks : List MarkSet

-- a session with an opened grid
abbrev pub session_at_start : Sheet → ℕ → ℕ → SessionState
session_at_start sheet seed limit = record {
  machine = machine_at_start sheet seed limit;
  kept = kept_at_start;
  residue = 0;
  marks = blank_marks sheet.dims;
}

-- the board, the notes and the tick are those of the piece that the past leaves
pub record KeepsSession (p : PastState) (d : Slate) (notes : List Note) (tick : ℕ) : Type 0 where
  pub grid : sheet_of d.scan ≡ (present p).sheet
  pub sounding : notes ≡ (present p).notes
  pub next : tick ≡ (present p).tick

-- a command that edits the grid by a block or takes one as the clip: any but a frame, a Clip, a
-- reset, a Hush, a Retract and the three jumps
abbrev pub IsBlockEdit : Command → Type 0
IsBlockEdit command.Frame = ⊥
IsBlockEdit (command.Clip y x glyph) = ⊥
IsBlockEdit command.Reset = ⊥
IsBlockEdit command.Undo = ⊥
IsBlockEdit (command.Rewind moment) = ⊥
IsBlockEdit command.Redo = ⊥
IsBlockEdit (command.Retract moment) = ⊥
IsBlockEdit command.Hush = ⊥
IsBlockEdit _ = Unit {0}

-- what a block edit costs, with its entry or without one
abbrev pub edit_price : Piece → Option Entry → ℕ
edit_price p entry = option_map_or (price p) entry COMMAND_PRICE

-- the clip, once a block is kept or none
abbrev pub clip_with : Option Sheet → Option Sheet → Option Sheet
clip_with clip None = clip
clip_with clip (Some block) = Some block

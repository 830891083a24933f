-- What the calls of a session do to the machine that it means.
use Rattle.std.specs.Prelude.{◌≡◌, Bool, true, false, not, ◌&&◌, List, [], ◌∷◌, All, None, Result, Ok, Err}
use Rattle.orca_base.specs.declared.command.Command.{Command}
use Rattle.orca_base.specs.declared.command.Command.TheVariants as command
use Rattle.orca_base.specs.declared.command.Entry.{Entry}
use Rattle.orca_base.specs.declared.command.Fault.{Fault}
use Rattle.orca_base.specs.declared.command.Fault.TheVariants.{Refused, Memory}
use Rattle.orca_base.specs.declared.command.Reply.{Reply}
use Rattle.orca_base.specs.declared.command.Rule.{Rule}
use Rattle.orca_base.specs.declared.message.Message.{Message}
use Rattle.orca_base.specs.Histories.{edits_grid, is_size_used}
use Rattle.orca_base.specs.Ranges.{CarriesFewValues}
use Rattle.orca_base.specs.MarkSet.{MarkSet}
use Rattle.orca_notes.specs.Device.{Plays}
use Rattle.orca_notes.specs.Sound.{ends}
use Rattle.orca_op.specs.Scan.{scan}
use Rattle.orca_edit.specs.Obeying.{MachineState, Obeyed, piece_of, rule_against, obey, machine_closed}
use Rattle.orca_edit.specs.Pieces.{Piece, next_frame}

-- an answer, the session after it, and the messages
abbrev pub obeyed : Result Reply Rule → MachineState → List Message → Obeyed
obeyed answer machine messages = record {
  answer = answer;
  machine = machine;
  messages = messages;
}

-- a jump: a command that goes back in the history, or forward again
abbrev pub is_jump : Command → Bool
is_jump command.Undo = true
is_jump (command.Rewind moment) = true
is_jump command.Redo = true
is_jump _ = false

-- an edit of the grid first, which a Retract may take out: it is no change of size that is in use
abbrev pub is_free_edit : List Entry → Bool
is_free_edit [] = false
is_free_edit (entry ∷ entries) = edits_grid entry && not (is_size_used (entry ∷ entries))

-- a command to which memory may be refused: any but a jump and a Retract
abbrev pub may_lack_memory : Command → Bool
may_lack_memory (command.Retract moment) = false
may_lack_memory c = not (is_jump c)

-- memory was refused: no rule stands against the command, it is one that may lack memory, nothing
-- has changed, and no message is given
pub record IsGivenUp (old : MachineState) (c : Command) (new : MachineState)
    (messages : List Message) : Type 0 where
  pub allowed : rule_against old c ≡ None
  pub lacking : may_lack_memory c ≡ true
  pub machine : new ≡ old
  pub silent : messages ≡ []

-- what a session did with a command: it obeyed, or memory was refused
abbrev pub Obeys : MachineState → Command → Result Reply Fault → MachineState → List Message
    → Type 0
Obeys old c (Ok reply) new messages = obey old c ≡ obeyed (Ok reply) new messages
Obeys old c (Err (Refused rule)) new messages = obey old c ≡ obeyed (Err rule) new messages
Obeys old c (Err Memory) new messages = IsGivenUp old c new messages

-- the whole of it: the messages also lead a device from the notes before to those after, and each
-- can be sent
pub record Acts (old : MachineState) (c : Command) (answer : Result Reply Fault)
    (new : MachineState) (messages : List Message) : Type 0 where
  pub obeys : Obeys old c answer new messages
  pub plays : Plays (piece_of old).notes messages (piece_of new).notes
  pub few_values : All CarriesFewValues messages

-- a close: every note ends
pub record Closes (old new : MachineState) (messages : List Message) : Type 0 where
  pub machine : new ≡ machine_closed old
  pub ended : messages ≡ ends (piece_of old).notes
  pub plays : Plays (piece_of old).notes messages (piece_of new).notes
  pub few_values : All CarriesFewValues messages

-- the marks of a scan of the piece as it stands
abbrev pub preview_of : Piece → List MarkSet
preview_of p = (scan p.sheet (next_frame p)).marks

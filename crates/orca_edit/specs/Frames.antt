-- Frames of a session: the messages that it gives, frame by frame, and those of its close.
use Rattle.std.specs.Prelude.{ℕ, zero, suc, List, [], ◌∷◌}
use Rattle.orca_base.specs.declared.command.Command.TheVariants.{Frame}
use Rattle.orca_base.specs.declared.message.Message.{Message}
use Rattle.orca_edit.specs.Obeying.{MachineState, obey, piece_of}
use Rattle.orca_notes.specs.Sound.{ends}

-- the session after so many frames
abbrev pub machine_after : ℕ → MachineState → MachineState
machine_after zero m = m
machine_after (suc n) m = machine_after n (obey m Frame).machine

-- the messages of each of so many frames
abbrev pub frames_of : ℕ → MachineState → List (List Message)
frames_of zero m = []
frames_of (suc n) m = (obey m Frame).messages ∷ frames_of n (obey m Frame).machine

-- the messages of the close after so many frames
abbrev pub close_of : ℕ → MachineState → List Message
close_of n m = ends (piece_of (machine_after n m)).notes

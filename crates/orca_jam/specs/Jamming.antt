-- A machine that several hands share: what becomes of a key.
use Rattle.std.specs.Prelude.{ℕ, ◌≡◌, ◌≤◌, ◌<◌, false, List, [], length, Option, Result, Ok, Err}
use Rattle.orca_base.specs.Areas.{IsArea}
use Rattle.orca_base.specs.Grids.{glyph_at}
use Rattle.orca_base.specs.declared.command.Command.{Command}
use Rattle.orca_base.specs.declared.command.Fault.{Fault}
use Rattle.orca_base.specs.declared.command.Fault.TheVariants as fault
use Rattle.orca_base.specs.declared.command.Reply.{Reply}
use Rattle.orca_base.specs.declared.message.Message.{Message}
use Rattle.orca_base.specs.declared.place.Place.{Place}
use Rattle.orca_edit.specs.Machines.{Acts}
use Rattle.orca_edit.specs.Obeying.{MachineState, piece_of}
use Rattle.orca_edit.specs.Prices.{Kept, charge, kept_after}
use Rattle.orca_edit.specs.declared.machine.Machine.{Ghosts}
use Rattle.orca_jam.specs.Crews.{CrewState, answer_to, denied_by, fitted_crew, own_for, player_at, struck_by, took_by, with_player}
use Rattle.orca_jam.specs.Laws.{AreOwners}
use Rattle.orca_jam.specs.declared.denial.Denial.{Denial}
use Rattle.orca_jam.specs.declared.denial.Denial.TheVariants as denial
use Rattle.orca_jam.specs.declared.answers.JamFault.{JamFault}
use Rattle.orca_jam.specs.declared.answers.JamFault.TheVariants as refused
use Rattle.orca_jam.specs.declared.answers.JamReply.{JamReply}
use Rattle.orca_jam.specs.declared.answers.JamReply.TheVariants as became
use Rattle.orca_jam.specs.declared.player.Player.{Player}
use Rattle.orca_jam.specs.declared.shared.Shared.{Shared}
use Rattle.orca_term.specs.Editing.{area_of}
use Rattle.orca_term.specs.declared.around.Around.{Around}
use Rattle.orca_term.specs.declared.cell.ScreenSize.{ScreenSize}
use Rattle.orca_term.specs.declared.editor.Editor.{Editor}
use Rattle.orca_term.specs.declared.editor.Wish.{Wish}
use Rattle.orca_term.specs.declared.editor.Wish.TheVariants as wish
use Rattle.orca_term.specs.declared.keys.Key.{Key}

-- the machine, the numbers that it keeps, how much its next call has to clear, the crew, and the
-- screen that hands are told of
pub record JamState : Type 0 where
  pub machine : MachineState
  pub kept : Kept
  pub residue : ℕ
  pub crew : CrewState
  pub screen : ScreenSize

-- every editor lies in the grid
abbrev pub AreInside : MachineState → CrewState → Type 0
AreInside m c =
    (hand : ℕ) → hand < length c.players
    → IsArea (piece_of m).sheet.dims (area_of (player_at c hand).editor)

-- what holds of every such machine and crew: the hands share it, there is room for all owners,
-- which are those of the history, and every editor lies in the grid
pub record IsJam (m : MachineState) (c : CrewState) : Type 0 where
  pub shared : c.alone ≡ false
  pub room : m.limit ≤ c.room
  pub owners : AreOwners m.history c.owners
  pub inside : AreInside m c

-- what a key is told, where this is told of the hand's own edits
abbrev pub around_in : MachineState → Editor → ScreenSize → Option ℕ → Around
around_in m e screen own =
    let at : Place = record { y = e.y; x = e.x } in
    record {
      dims = (piece_of m).sheet.dims;
      moments = length m.history;
      glyph = glyph_at (piece_of m).sheet at;
      screen = screen;
      own = own;
    }

-- every editor is brought into the grid
abbrev pub crew_in : MachineState → CrewState → CrewState
crew_in m c = fitted_crew (piece_of m).sheet.dims c

-- the crew after a command of a hand that was accepted and led to this machine
abbrev pub crew_after : ℕ → Command → MachineState → CrewState → CrewState
crew_after hand command m c = crew_in m (took_by hand command (length m.history) c)

-- ---- answers

-- what a denied key is told
abbrev pub fault_of_denial : Denial → JamFault
fault_of_denial denial.LeaderOnly = refused.LeaderOnly
fault_of_denial (denial.NotYours hand) = refused.NotYours hand

-- what becomes of a wish that is no command
abbrev pub wish_reply : Wish → JamReply
wish_reply wish.Nothing = became.Moved
wish_reply (wish.Do command) = became.Moved
wish_reply wish.Toggle = became.Toggle
wish_reply wish.Save = became.Save
wish_reply wish.Quit = became.Quit
wish_reply (wish.Slower beats) = became.Slower beats
wish_reply (wish.Faster beats) = became.Faster beats
wish_reply (wish.Redraw size) = became.Redraw size

-- why nothing becomes of a command
abbrev pub failed_of : Command → Fault → JamFault
failed_of command (fault.Refused rule) = refused.Refused command rule
failed_of command fault.Memory = refused.Memory

-- what becomes of a command
abbrev pub command_reply : Command → Result Reply Fault → Result JamReply JamFault
command_reply command (Ok reply) = Ok (became.Acted command reply)
command_reply command (Err fault) = Err (failed_of command fault)

-- ---- a key

-- all is as before, and nothing is to be sent
pub record IsAsBefore (s t : JamState) (messages : List Message) : Type 0 where
  pub machine : t.machine ≡ s.machine
  pub kept : t.kept ≡ s.kept
  pub crew : t.crew ≡ s.crew
  pub silent : messages ≡ []

-- the machine did a command of a hand, of a crew whose editor has followed the key, or all is as
-- before
abbrev pub AfterCommand : JamState → ℕ → Command → CrewState → Result Reply Fault → JamState
    → List Message → Type 0
AfterCommand s hand command c (Ok reply) t messages = t.crew ≡ crew_after hand command t.machine c
AfterCommand s hand command c (Err fault) t messages = IsAsBefore s t messages

-- the machine did a command of a hand, whose editor has followed the key
pub record IsActed (s : JamState) (hand : ℕ) (command : Command) (c : CrewState)
    (answer : Result JamReply JamFault) (t : JamState) (messages : List Message) : Type 0 where
  pub reply : Result Reply Fault
  pub told : answer ≡ command_reply command reply
  pub acts : Acts s.machine command reply t.machine messages
  pub kept : t.kept ≡ kept_after s.machine s.kept command reply
  pub after : AfterCommand s hand command c reply t messages

-- the editor has followed the key, and all else is as before
pub record IsMoved (s : JamState) (w : Wish) (c : CrewState) (answer : Result JamReply JamFault)
    (t : JamState) (messages : List Message) : Type 0 where
  pub told : answer ≡ Ok (wish_reply w)
  pub machine : t.machine ≡ s.machine
  pub kept : t.kept ≡ s.kept
  pub crew : t.crew ≡ c
  pub silent : messages ≡ []

-- what is done of a wish of a hand
abbrev pub Wished : JamState → ℕ → CrewState → Wish → Result JamReply JamFault → JamState
    → List Message → Type 0
Wished s hand c (wish.Do command) answer t messages = IsActed s hand command c answer t messages
Wished s hand c w answer t messages = IsMoved s w c answer t messages

-- a key of a hand is denied: it closes the page of help, and all else is as before
abbrev pub IsDenied : JamState → ℕ → Key → JamState → List Message → Type 0
IsDenied s hand key t messages =
    IsAsBefore (record s { crew = denied_by hand key s.crew }) t messages

-- what is done of a key of a hand
abbrev pub Answered : JamState → ℕ → Key → CrewState → Result Wish Denial
    → Result JamReply JamFault → JamState → List Message → Type 0
Answered s hand key c (Err denial) answer t messages =
    (answer ≡ Err (fault_of_denial denial)) × IsDenied s hand key t messages
Answered s hand key c (Ok w) answer t messages = Wished s hand c w answer t messages

-- what a key of a hand is told
abbrev pub around_of : JamState → ℕ → Key → Around
around_of s hand key =
    around_in s.machine (player_at s.crew hand).editor s.screen
    (own_for key s.crew hand s.machine.history)

-- what became of a key of a hand
abbrev pub Jams : JamState → ℕ → Key → Result JamReply JamFault → JamState → List Message
    → Type 0
Jams s hand key answer t messages =
    let around = around_of s hand key in
    Answered s hand key (struck_by hand key around s.crew) (answer_to s.crew hand key around)
    answer t messages

-- ---- its price

-- what the machine answered to a frame of the clock
abbrev pub clock_answer : Result Reply JamFault → Result Reply Fault
clock_answer (Ok reply) = Ok reply
clock_answer (Err (refused.Refused command rule)) = Err (fault.Refused rule)
clock_answer (Err _) = Err fault.Memory

-- what the machine answered
abbrev pub machine_answer : Result JamReply JamFault → Result Reply Fault
machine_answer (Ok (became.Acted command reply)) = Ok reply
machine_answer (Err (refused.Refused command rule)) = Err (fault.Refused rule)
machine_answer _ = Err fault.Memory

-- what may be taken of steps: for a command what the machine may take, and else nothing
abbrev pub wish_price : JamState → Result Wish Denial → Result JamReply JamFault → ℕ
wish_price s (Ok (wish.Do command)) answer = charge (machine_answer answer) s.machine s.kept command
wish_price s _ answer = 0

abbrev pub jam_price : JamState → ℕ → Key → Result JamReply JamFault → ℕ
jam_price s hand key answer = wish_price s (answer_to s.crew hand key (around_of s hand key)) answer

-- ---- by the ghost members of a machine

abbrev pub jam_state : {M : Type 0} → Ghosts M → Shared M → JamState
jam_state g j = record {
  machine = g.machine j.machine;
  kept = g.kept j.machine;
  residue = g.residue j.machine;
  crew = j.crew;
  screen = j.screen;
}

-- where the player of a hand was this one
abbrev pub before : ℕ → Player → JamState → JamState
before hand p s = record s { crew = with_player hand p s.crew }

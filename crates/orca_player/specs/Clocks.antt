-- Laws of runs by a clock, on their outlines: what a run that follows does with the bytes that it
-- hears; and that it plays exactly the frames of a run that leads, if it hears exactly what that gives.
use Rattle.std.specs.Prelude.{◌≡◌, ◌<◌, ℕ, List, ◌∷◌, All, Option, Some}
use Rattle.std.specs.List.{filter, flat_map}
use Rattle.std.specs.Option.{option_map}
use Rattle.orca_base.specs.declared.command.Command.TheVariants as command
use Rattle.orca_clock.specs.Laws.{AreDone, commands_of_beat, heard_in, midi_bytes_in}
use Rattle.orca_course.specs.Acts.{commands_in, polls_in}
use Rattle.orca_course.specs.Performers.{polls_of}
use Rattle.orca_edit.specs.Obeying.{MachineState, piece_of}
use Rattle.orca_edit.specs.Pieces.{Piece}
use Rattle.orca_grid.specs.GridText.{grid_text}
use Rattle.orca_sync.specs.Clocks.{beats_from, stopped}
use Rattle.orca_sync.specs.RealTime.{is_clock}
use Rattle.orca_words.specs.Requests.{Follow, Lead, Leading, Perform, Setup, Work, request_of}
use Rattle.orca_player.specs.Outlines.{Heard, Outline, outline}
use Rattle.orca_player.specs.declared.status.Status.TheVariants.{Done, HistoryFull}

-- these words ask for this work
abbrev pub AskFor : List (List ℕ) → Setup → Work → Type 0
AskFor words setup work = request_of words ≡ Some (Perform setup work)

-- a run does all that its words ask for: its status is 0, or 3 if a port failed
abbrev pub DoesAll : Outline → Type 0
DoesAll o = o.course.ending ≡ Some Done

-- the session at which it stands at last, and its piece
abbrev pub last_machine : Outline → Option MachineState
last_machine o = option_map (λ s. s.machine) o.course.state

abbrev pub run_piece : Outline → Option Piece
run_piece o = option_map (λ s. piece_of s.machine) o.course.state

-- the same commands, and the same session at last
pub record RunsAlike (o p : Outline) : Type 0 where
  pub commands : commands_in o.course.acts ≡ commands_in p.course.acts
  pub machine : last_machine o ≡ last_machine p

-- one run begins anew once, and then plays the frames of another, and no more. It ends with the grid
-- and the tick of that
pub record RunIsLed (lead follow : Outline) : Type 0 where
  pub commands : commands_in follow.course.acts ≡ command.Reset ∷ commands_in lead.course.acts
  pub frames : All (λ c. c ≡ command.Frame) (commands_in lead.course.acts)
  pub grid : option_map (λ p. p.sheet) (run_piece follow)
      ≡ option_map (λ p. p.sheet) (run_piece lead)
  pub tick : option_map (λ p. p.tick) (run_piece follow)
      ≡ option_map (λ p. p.tick) (run_piece lead)

pub record KeepsTime (words : List (List ℕ)) : Type 0 where
  -- a run that follows does the commands of all bytes that it heard, however they were cut into
  -- answers, and no others. A full history alone keeps it from the last of them
  pub beats : (setup : Setup) (address : List ℕ) (h : Heard)
      → AskFor words setup (Follow address)
      → let o = outline words h in
      polls_in o.course.acts ≡ polls_of h.brought.hearings
      → AreDone HistoryFull o.course.ending (commands_in o.course.acts)
      (flat_map commands_of_beat (beats_from stopped (heard_in h.brought.hearings)))
  -- whatever other bytes stand between those of the clock
  pub bytes : (setup : Setup) (address : List ℕ) (h k : Heard)
      → AskFor words setup (Follow address)
      → k.grid ≡ h.grid → DoesAll (outline words h) → DoesAll (outline words k)
      → filter is_clock (heard_in h.brought.hearings)
      ≡ filter is_clock (heard_in k.brought.hearings)
      → RunsAlike (outline words h) (outline words k)
  -- one that hears exactly the MIDI bytes of a run that leads, and then the end, on the same grid with
  -- the same seed, and with room for one entry more
  pub leads : (others : List (List ℕ)) (setup other : Setup) (address : List ℕ) (lead : Leading)
      (h k : Heard) → AskFor words setup (Follow address) → AskFor others other (Lead lead)
      → option_map grid_text h.grid ≡ option_map grid_text k.grid → setup.seed ≡ other.seed
      → other.limit < setup.limit → DoesAll (outline words h) → DoesAll (outline others k)
      → heard_in h.brought.hearings ≡ midi_bytes_in (outline others k).course.acts
      → RunIsLed (outline others k) (outline words h)

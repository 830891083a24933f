-- What a run does on the outside, in order, and what is read off it.
use Rattle.std.specs.Prelude.{◌≡◌, ℕ, ◌==◌, Bool, true, false, ◌||◌, if◌then◌else◌, List, [], ◌∷◌, map, Option, Some, All}
use Rattle.orca_base.specs.declared.command.Command.{Command}
use Rattle.orca_base.specs.declared.port.Port.{Port}
use Rattle.orca_base.specs.declared.port.Port.TheVariants as port
use Rattle.orca_base.specs.Ports.{Sent}
use Rattle.orca_rig.specs.declared.files.Claim.{Claim as Claimed}
use Rattle.orca_rig.specs.Handed.{Attached}
use Rattle.orca_trace.specs.Calls.{Poll}
use Rattle.orca_term.specs.Picture.{IsPrintable}
use Rattle.orca_term.specs.declared.cell.Cell.{Cell}
use Rattle.orca_term.specs.declared.cell.ScreenSize.{ScreenSize}
use Rattle.orca_term.specs.declared.keys.Key.{Key}
use Rattle.orca_course.specs.Standings.{Standing}
use Rattle.orca_course.specs.declared.item.Losses.{Losses}

-- one call on the outside, with its answer where that decides what follows; and, between calls, the
-- commands, where they leave the run, the keys that hands struck, the pictures that were painted
-- for them, and the sizes of their terminals that were told
pub data Act : Type 0 where
  -- a port is attached to a name
  Attach : Attached → Act
  -- a file is loaded: its text, unless the load fails
  Load : List ℕ → Option (List ℕ) → Act
  -- these bytes are saved under a name
  Save : List ℕ → List ℕ → Act
  -- a file of a name is begun with these bytes, to be added to
  Begin : List ℕ → List ℕ → Act
  -- these bytes are added to the file of a name
  Append : List ℕ → List ℕ → Act
  -- a file of a name is claimed with these bytes: whether it was made, unless that fails
  Claim : List ℕ → List ℕ → Option Claimed → Act
  -- the file of a name is taken away
  Remove : List ℕ → Act
  -- these bytes are told to a hand
  Tell : ℕ → List ℕ → Act
  -- the inbox listens at a name for so many hands; and the moment that it answers, unless it fails
  Listen : List ℕ → ℕ → Option ℕ → Act
  -- a poll of the inbox, with its answer
  Await : Poll → Act
  -- bytes are given to a port
  Give : Sent → Act
  -- a command is given to the session; no call
  Obey : Command → Act
  -- the run stands so, between two commands; no call
  Stand : Standing → Act
  -- a key of a hand is struck; no call
  Strike : ℕ → Key → Act
  -- the picture of a hand is painted; no call
  Show : ℕ → List Cell → Act
  -- from here on the terminal of a hand has this size, and shows whatever it shows; no call
  Screen : ℕ → ScreenSize → Act
  -- what all calls so far came to is told; no call
  Learn : Losses → Act

-- ---- calls

-- the calls among acts
abbrev pub calls_in : List Act → List Act
calls_in [] = []
calls_in (Obey command ∷ acts) = calls_in acts
calls_in (Stand s ∷ acts) = calls_in acts
calls_in (Strike hand key ∷ acts) = calls_in acts
calls_in (Show hand cells ∷ acts) = calls_in acts
calls_in (Screen hand d ∷ acts) = calls_in acts
calls_in (Learn came ∷ acts) = calls_in acts
calls_in (act ∷ acts) = act ∷ calls_in acts

-- the sends among acts
abbrev pub given : List Act → List Sent
given [] = []
given (Give sent ∷ acts) = sent ∷ given acts
given (_ ∷ acts) = given acts

-- the polls among acts
abbrev pub polls_in : List Act → List Poll
polls_in [] = []
polls_in (Await poll ∷ acts) = poll ∷ polls_in acts
polls_in (_ ∷ acts) = polls_in acts

-- ---- between calls

-- the commands among acts
abbrev pub commands_in : List Act → List Command
commands_in [] = []
commands_in (Obey command ∷ acts) = command ∷ commands_in acts
commands_in (_ ∷ acts) = commands_in acts

-- the keys of a hand among acts
abbrev pub keys_in : ℕ → List Act → List Key
keys_in hand [] = []
keys_in hand (Strike other key ∷ acts) =
    if other == hand then key ∷ keys_in hand acts else keys_in hand acts
keys_in hand (_ ∷ acts) = keys_in hand acts

-- where a run stands after acts, if it has a session
abbrev pub stand_after : Option Standing → List Act → Option Standing
stand_after s [] = s
stand_after s (Stand t ∷ acts) = stand_after (Some t) acts
stand_after s (_ ∷ acts) = stand_after s acts

-- whether a message goes to this port
abbrev pub is_of_messages : Port → Bool
is_of_messages port.Midi = true
is_of_messages port.Udp = true
is_of_messages port.Osc = true
is_of_messages port.Text = false
is_of_messages port.Fault = false
is_of_messages port.View = false

-- whether messages were given since the run stood somewhere, after acts
abbrev pub open_after : Bool → List Act → Bool
open_after before [] = before
open_after before (Give sent ∷ acts) = open_after (before || is_of_messages sent.port) acts
open_after before (Stand s ∷ acts) = open_after false acts
open_after before (_ ∷ acts) = open_after before acts

-- ---- lists of acts

-- no message is given among acts, and they leave a run where it stands
abbrev pub AreMute : List Act → Type 0
AreMute [] = Unit {0}
AreMute (Give sent ∷ acts) = (is_of_messages sent.port ≡ false) × AreMute acts
AreMute (Stand s ∷ acts) = ⊥
AreMute (_ ∷ acts) = AreMute acts

-- the cells of each picture among acts are such as a terminal can show
abbrev pub ArePrintable : List Act → Type 0
ArePrintable [] = Unit {0}
ArePrintable (Show hand cells ∷ acts) = All IsPrintable cells × ArePrintable acts
ArePrintable (_ ∷ acts) = ArePrintable acts

-- what calls came to is not told among acts
abbrev pub AreUntold : List Act → Type 0
AreUntold [] = Unit {0}
AreUntold (Learn came ∷ acts) = ⊥
AreUntold (_ ∷ acts) = AreUntold acts

-- the inbox is not asked among acts
abbrev pub AreDeaf : List Act → Type 0
AreDeaf [] = Unit {0}
AreDeaf (Listen name hands start ∷ acts) = ⊥
AreDeaf (Await poll ∷ acts) = ⊥
AreDeaf (_ ∷ acts) = AreDeaf acts

-- these sends, one by one
abbrev pub gives : List Sent → List Act
gives = map Give

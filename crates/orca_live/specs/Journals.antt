-- The journal of a performance: a file that has its commands while it plays.
use Rattle.std.specs.Prelude.{◌≡◌, ◌≢◌, ◌<◌, ◌^◌, ℕ, Bool, true, false, if◌then◌else◌, List, [], ◌∷◌, ◌++◌, All, map, Ok, Option, Some, None, IfSome}
use Rattle.std.specs.List.{flat_map}
use Rattle.std.specs.Option.{option_map}
use Rattle.std.specs.Str.{bytes_eq}
use Rattle.orca_base.specs.declared.command.Command.{Command}
use Rattle.orca_concert.specs.Concerts.{concert_with, cues_course}
use Rattle.orca_concert.specs.Manners.{Manner}
use Rattle.orca_course.specs.Acts.{Act, commands_in}
use Rattle.orca_course.specs.Acts.Act.{Append, Await, Begin, Claim, Remove, Save}
use Rattle.orca_course.specs.Courses.{Course}
use Rattle.orca_course.specs.Performers.{Hearing, performance}
use Rattle.orca_course.specs.Standings.{Standing}
use Rattle.orca_course.specs.declared.item.Losses.{Losses}
use Rattle.orca_cues.specs.Scripts.{any_script_of, cues_asking, seed_in}
use Rattle.orca_edit.specs.Obeying.{MachineState}
use Rattle.orca_rig.specs.declared.files.Claim.TheVariants.{Made}
use Rattle.orca_script.specs.Canonical.{Extends, HasValues, line_of, printed}
use Rattle.orca_script.specs.Runs.{printed_header}
use Rattle.orca_script.specs.declared.format_2.Line.TheVariants.{Do}
use Rattle.orca_trace.specs.Calls.{Poll}
use Rattle.orca_live.specs.Laws.{GoesOn, so_far}
use Rattle.orca_live.specs.Performing.{live_part}
use Rattle.orca_live.specs.States.{LiveState, Setting}

-- the text of a file to which commands are added: what it began with, and then the canonical line of
-- each command, also of each of several frames in a row
abbrev pub kept_text : List ℕ → List Command → List ℕ
kept_text start commands = start ++ flat_map printed commands

-- a journal begins with the first line of a script with the seed
abbrev pub journal_text : ℕ → List Command → List ℕ
journal_text seed commands = kept_text (printed_header seed) commands

-- what acts leave under a name, after this: a save, a begin, and a claim that made the file leave
-- their bytes, an append adds its own, and a removal leaves nothing
abbrev pub held_after : List ℕ → Option (List ℕ) → List Act → Option (List ℕ)
held_after name held [] = held
held_after name held (Save other bytes ∷ acts) =
    held_after name (if bytes_eq other name then Some bytes else held) acts
held_after name held (Begin other bytes ∷ acts) =
    held_after name (if bytes_eq other name then Some bytes else held) acts
held_after name held (Append other bytes ∷ acts) =
    held_after name
    (if bytes_eq other name then option_map (λ before. before ++ bytes) held else held) acts
held_after name held (Claim other bytes (Some Made) ∷ acts) =
    held_after name (if bytes_eq other name then Some bytes else held) acts
held_after name held (Remove other ∷ acts) =
    held_after name (if bytes_eq other name then None else held) acts
held_after name held (_ ∷ acts) = held_after name held acts

-- the same, where nothing was there before
abbrev pub held_in : List ℕ → List Act → Option (List ℕ)
held_in name acts = held_after name None acts

-- a course keeps its commands under this name, behind this start, where this is held at first
pub record KeepsText {S E : Type 0} (name start : List ℕ) (held : Option (List ℕ)) (c : Course S E)
    : Type 0 where
  -- wherever the inbox is asked, the file was given the text of exactly the commands so far
  pub asked : (xs ys : List Act) (poll : Poll) → c.acts ≡ xs ++ Await poll ∷ ys
      → held_after name held xs ≡ Some (kept_text start (commands_in xs))
  -- wherever acts stop, it was given a beginning of that: the other lines wait
  pub begun : (xs ys : List Act) → c.acts ≡ xs ++ ys
      → IfSome (held_after name held xs) (λ text. Extends text (kept_text start (commands_in xs)))
  -- and at the end it was given the text of all of them
  pub ended : c.ending ≢ None
      → held_after name held c.acts ≡ Some (kept_text start (commands_in c.acts))

-- a course keeps a journal under this name
abbrev pub KeepsJournal : {S E : Type 0} → List ℕ → ℕ → Course S E → Type 0
KeepsJournal name seed c = KeepsText name (printed_header seed) None c

-- a name is not that of the grid, nor one that is saved under at the end
pub record IsApart (name : List ℕ) (set : Setting) : Type 0 where
  pub grid : name ≢ set.grid
  pub save : IfSome set.save (λ other. name ≢ other)
  pub script : IfSome set.script (λ other. name ≢ other)

-- a room holds its start at first; a journal is not there, and starts with the line of the seed
abbrev pub StartsSo : Bool → ℕ → List ℕ → Option (List ℕ) → Type 0
StartsSo true seed start held = held ≡ Some start
StartsSo false seed start held = (start ≡ printed_header seed) × (held ≡ None)

-- a performance keeps its commands in its journal or its room, if no other file of it has that name
abbrev pub JournalsPerformance : Type 0
JournalsPerformance =
    (s : LiveState) (opening : Losses) (heard : List Hearing) (name start : List ℕ)
    (held : Option (List ℕ)) → s.setting.journal ≡ Some name → IsApart name s.setting
    → s.unwritten ≡ [] → StartsSo s.setting.room s.setting.seed start held
    → KeepsText name start held (performance live_part s opening heard)

-- ---- a journal is a script

-- a text is read as a script of this seed, with these commands, one on each line after the first
pub record IsScriptOf (seed : ℕ) (commands : List Command) (text : List ℕ) : Type 0 where
  pub seeds : seed_in text ≡ Some seed
  pub cues : any_script_of text ≡ Ok (cues_asking 2 (map Do commands))

-- so is that of a journal, if the numbers of the commands have 32 bits
abbrev pub JournalsAreScripts : Type 0
JournalsAreScripts =
    (seed : ℕ) (commands : List Command) → seed < 2 ^ 32
    → All (λ command. HasValues (line_of command)) commands
    → IsScriptOf seed commands (journal_text seed commands)

-- the session to which a script of these commands leads, one on each line, before its close
abbrev pub led_back : Manner (Unit {0}) → List Command → Standing → MachineState
led_back m commands s =
    (cues_course m (cues_asking 2 (map Do commands)) (concert_with s tt)).state.standing.machine

-- done again, the commands of a performance so far lead to its session as it stands
abbrev pub LeadsBack : Type 0
LeadsBack =
    (opening : Losses) (heard : List Hearing) (s : LiveState) (m : Manner (Unit {0})) → GoesOn m
    → led_back m (commands_in (so_far s opening heard).acts) s.standing
    ≡ (so_far s opening heard).state.standing.machine

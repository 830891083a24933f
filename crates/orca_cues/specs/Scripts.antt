-- Scripts: the lines of a text, each read as a line of a format, and the cues of those that ask for
-- a command.
use Rattle.std.specs.Prelude.{ℕ, ◌+◌, ◌-◌, ◌<◌, ◌≤◌, ◌==◌, Bool, true, false, if◌then◌else◌, Option, Some, None, Result, Ok, Err, List, [], ◌∷◌, ◌++◌, length, replicate, slice_index, slice_index_or}
use Rattle.std.specs.List.{flat_map}
use Rattle.std.specs.Option.{option_map, option_or}
use Rattle.std.specs.Result.{result_map_both}
use Rattle.std.specs.Str.Lines.{lines}
use Rattle.orca_base.specs.declared.command.Command.{Command}
use Rattle.orca_base.specs.declared.command.Command.TheVariants.{Frame}
use Rattle.orca_script.specs.declared.format_2.Line.{Line}
use Rattle.orca_script.specs.declared.format_2.Line.TheVariants as asks
use Rattle.orca_script.specs.Format2.{IsHeader, IsLine2, LeavesAt, header_seed, header_reading, reading2}
use Rattle.orca_script.specs.Grammar.{IsLine}
use Rattle.orca_script.specs.Reading.{reading}
use Rattle.orca_script.specs.declared.refusal.ScriptRefusal.{ScriptRefusal}
use Rattle.orca_cues.specs.declared.fault.ScriptFault.{ScriptFault}
use Rattle.orca_cues.specs.declared.source.Cue.{Cue}
use Rattle.orca_cues.specs.declared.source.Order.{Order}
use Rattle.orca_cues.specs.declared.source.Order.TheVariants.{Do, RewindHalf}

-- ---- one line

abbrev pub exclamation : ℕ
exclamation = 33

-- a text whose first byte is `!` is of format 2, and every other one of format 1
abbrev pub is_format_2 : List ℕ → Bool
is_format_2 text = slice_index text 0 == exclamation

-- what a line is read as, of a text of format 2 or 1, and the first or another. The first line of
-- format 2 gives a seed, and asks for nothing
abbrev pub reading_by : Bool → Bool → List ℕ → Result (Option Line) ScriptRefusal
reading_by false first line =
    result_map_both (option_map asks.Do) (λ refusal. refusal) (reading line)
reading_by true true line =
    result_map_both (λ seed. None) (λ refusal. refusal) (header_reading line)
reading_by true false line = reading2 line

-- what the line of this number is read as
abbrev pub reading_at : Bool → ℕ → List ℕ → Result (Option Line) ScriptRefusal
reading_at format_2 number line = reading_by format_2 (number == 1) line

-- the grammar of a line
abbrev pub IsLineBy : Bool → Bool → List ℕ → Type 0
IsLineBy false first line = IsLine line
IsLineBy true true line = IsHeader line
IsLineBy true false line = IsLine2 line

-- the grammar of the line of this number
abbrev pub IsLineAt : Bool → ℕ → List ℕ → Type 0
IsLineAt format_2 number line = IsLineBy format_2 (number == 1) line

-- the cue of a command that stands on a line: it is done once
abbrev pub cue_on : ℕ → Command → Cue
cue_on number command = record { line = number; times = 1; order = Do command }

-- the cue of what a line asks for: a run of frames is one cue
abbrev pub cue_asking : ℕ → Line → Cue
cue_asking number (asks.Do command) = cue_on number command
cue_asking number (asks.Frames times) =
    record { line = number; times = times; order = Do Frame }

-- the cue of a line, by what the line is read as
abbrev pub cue_read : ℕ → Result (Option Line) ScriptRefusal → List Cue
cue_read number (Ok (Some asked)) = cue_asking number asked ∷ []
cue_read number _ = []

-- the fault of a line, by what the line is read as
abbrev pub fault_read : ℕ → Result (Option Line) ScriptRefusal → Option ScriptFault
fault_read number (Ok found) = None
fault_read number (Err refusal) = Some (record { line = number; column = refusal.column })

-- ---- all lines

-- the cues of lines, the first of which has this number: one for each line with a command, in order
unfoldable pub cues_of : Bool → ℕ → List (List ℕ) → List Cue
cues_of format_2 number [] = []
cues_of format_2 number (line ∷ others) =
    cue_read number (reading_at format_2 number line) ++ cues_of format_2 (number + 1) others

-- the fault of the first refused line, where the first of the lines has this number
unfoldable pub first_fault : Bool → ℕ → List (List ℕ) → Option ScriptFault
first_fault format_2 number [] = None
first_fault format_2 number (line ∷ others) =
    option_or (fault_read number (reading_at format_2 number line))
    (first_fault format_2 (number + 1) others)

-- the fault decides
abbrev pub unless_faulty : Option ScriptFault → List Cue → Result (List Cue) ScriptFault
unless_faulty (Some fault) cues = Err fault
unless_faulty None cues = Ok cues

-- the script of a text of format 2 or 1: its lines are numbered from 1, and the first refused line
-- decides
abbrev pub script_by : Bool → List ℕ → Result (List Cue) ScriptFault
script_by format_2 text =
    unless_faulty (first_fault format_2 1 (lines text)) (cues_of format_2 1 (lines text))

-- the script of a text of format 1
abbrev pub script_of : List ℕ → Result (List Cue) ScriptFault
script_of text = script_by false text

-- the script of a text of either format
abbrev pub any_script_of : List ℕ → Result (List Cue) ScriptFault
any_script_of text = script_by (is_format_2 text) text

-- the line of a text that has this number
abbrev pub line_at : List ℕ → ℕ → List ℕ
line_at text number = slice_index_or (lines text) (number - 1) []

-- the seed that a script gives: that of the first line of format 2
abbrev pub seed_in : List ℕ → Option ℕ
seed_in text = if is_format_2 text then header_seed (line_at text 1) else None

-- ---- its commands

-- an order that is done so often, as commands; a script has none but commands
abbrev pub commands_by : ℕ → Order → List Command
commands_by times (Do command) = replicate times command
commands_by times RewindHalf = []

-- the commands of cues, in order
abbrev pub commands_of_cues : List Cue → List Command
commands_of_cues cues = flat_map (λ (cue : Cue). commands_by cue.times cue.order) cues

-- ---- the same by the grammar itself

-- each line of the text is a line of the grammar
abbrev pub IsScriptBy : Bool → List ℕ → Type 0
IsScriptBy format_2 text = (number : ℕ) → 1 ≤ number → number ≤ length (lines text) →
    IsLineAt format_2 number (line_at text number)

-- the line of the fault is the first of the text outside the grammar, and the column is the one at
-- which that line leaves it
pub record IsFaultBy (format_2 : Bool) (text : List ℕ) (fault : ScriptFault) : Type 0 where
  pub counted : 1 ≤ fault.line
  pub present : fault.line ≤ length (lines text)
  pub before : (number : ℕ) → 1 ≤ number → number < fault.line →
      IsLineAt format_2 number (line_at text number)
  pub here : LeavesAt (IsLineAt format_2 fault.line) (line_at text fault.line) fault.column

-- ---- printed commands

-- the cues of commands that stand on a line each, the first on the line of this number
abbrev pub one_a_line : ℕ → List Command → List Cue
one_a_line number [] = []
one_a_line number (command ∷ others) = cue_on number command ∷ one_a_line (number + 1) others

-- the cues of lines, the first of which has this number
abbrev pub cues_asking : ℕ → List Line → List Cue
cues_asking number [] = []
cues_asking number (asked ∷ others) = cue_asking number asked ∷ cues_asking (number + 1) others

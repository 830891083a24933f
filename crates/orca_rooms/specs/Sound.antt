-- A script of format 2 up to its first wrong line.
use Rattle.std.specs.Prelude.{ℕ, ◌+◌, Option, Some, None, Result, Ok, Err, true, List, [], ◌∷◌, ◌++◌, take}
use Rattle.std.specs.Str.Lines.{lines}
use Rattle.orca_base.specs.declared.command.Command.{Command}
use Rattle.orca_script.specs.declared.format_2.Line.{Line}
use Rattle.orca_script.specs.declared.refusal.ScriptRefusal.{ScriptRefusal}
use Rattle.orca_cues.specs.Scripts.{cue_read, reading_at}
use Rattle.orca_cues.specs.declared.source.Cue.{Cue}

-- the cues of a line, by what it is read as, and of those behind it; a wrong one has none
abbrev pub sound_by : ℕ → Result (Option Line) ScriptRefusal → List Cue → List Cue
sound_by number (Err refusal) cues = []
sound_by number (Ok found) cues = cue_read number (Ok found) ++ cues

-- the cues of lines before the first wrong one, where the first of the lines has this number
unfoldable pub sound_cues : ℕ → List (List ℕ) → List Cue
sound_cues number [] = []
sound_cues number (line ∷ others) =
    sound_by number (reading_at true number line) (sound_cues (number + 1) others)

-- the cues of a text
abbrev pub sound_script : List ℕ → List Cue
sound_script text = sound_cues 1 (lines text)

-- so many first commands, or all
abbrev pub first_commands : Option ℕ → List Command → List Command
first_commands None commands = commands
first_commands (Some most) commands = take most commands

-- The canonical text of format 2: the first line with the seed, and a line for each command, but for
-- frames that stand in a row.
use Rattle.std.specs.Prelude.{ℕ, ◌+◌, ◌-◌, ◌/◌, ◌%◌, ◌^◌, ◌≡◌, ◌==◌, Bool, true, false, if◌then◌else◌, All, Some, None, Ok, List, [], ◌∷◌, ◌++◌, replicate, codes}
use Rattle.std.specs.List.{flat_map}
use Rattle.std.specs.Str.Lines.{lines}
use Rattle.orca_base.specs.Ascii.{line_feed}
use Rattle.orca_base.specs.declared.command.Command.{Command}
use Rattle.orca_base.specs.declared.command.Command.TheVariants.{Frame}
use Rattle.orca_script.specs.declared.format_2.Line.{Line}
use Rattle.orca_script.specs.declared.format_2.Line.TheVariants.{Do, Frames}
use Rattle.orca_script.specs.Canonical.{Line as Words, canonical, line_with, printed, line_text, line_of, HasValues}
use Rattle.orca_script.specs.Format2.{header_reading, reading2}
use Rattle.orca_script.specs.Reading.{reading}

-- ---- lines

-- the words of the first line
abbrev pub header_words : ℕ → Words
header_words seed = line_with (codes "!orca 2 seed") (seed ∷ []) None

abbrev pub canonical_header : ℕ → List ℕ
canonical_header seed = line_text (header_words seed)

-- what is printed of a seed: the canonical first line and a line feed
abbrev pub printed_header : ℕ → List ℕ
printed_header seed = canonical_header seed ++ line_feed ∷ []

-- the words of another line
abbrev pub words_asking : Line → Words
words_asking (Do command) = line_of command
words_asking (Frames times) = line_with (codes "frames") (times ∷ []) None

abbrev pub canonical2 : Line → List ℕ
canonical2 asked = line_text (words_asking asked)

-- what is printed of it: its canonical line and a line feed
abbrev pub printed2 : Line → List ℕ
printed2 asked = canonical2 asked ++ line_feed ∷ []

-- ---- runs of frames

-- the commands that a line asks for
abbrev pub commands_of : Line → List Command
commands_of (Do command) = command ∷ []
commands_of (Frames times) = replicate times Frame

-- the most frames that a line asks for
abbrev pub most_frames : ℕ
most_frames = 2 ^ 32 - 1

-- a run that one line asks for: two frames or more are a run
abbrev pub short_run : ℕ → List Line
short_run n = if n == 0 then [] else if n == 1 then Do Frame ∷ [] else Frames n ∷ []

-- a run: it is cut into runs of the most frames of a line, and a rest
unfoldable pub run_of : ℕ → List Line
run_of n = replicate (n / most_frames) (Frames most_frames) ++ short_run (n % most_frames)

abbrev pub is_frame : Command → Bool
is_frame Frame = true
is_frame _ = false

-- the lines of so many frames and then of these commands: the frames in a row are one run
unfoldable pub lines_behind : ℕ → List Command → List Line
lines_behind frames [] = run_of frames
lines_behind frames (command ∷ commands) =
    if is_frame command then lines_behind (frames + 1) commands
    else run_of frames ++ Do command ∷ lines_behind 0 commands

-- the text of so many frames and then of these commands
abbrev pub text_behind : ℕ → List Command → List ℕ
text_behind frames commands = flat_map printed2 (lines_behind frames commands)

-- the script of a seed and commands
abbrev pub printed_script : ℕ → List Command → List ℕ
printed_script seed commands = printed_header seed ++ text_behind 0 commands

-- ---- what is printed is read

-- what is printed of the command is one line before any text, and is read as the command
pub record CommandReadsBack (command : Command) : Type 0 where
  pub read : reading (canonical command) ≡ Ok (Some command)
  pub line : (rest : List ℕ) → lines (printed command ++ rest) ≡ canonical command ∷ lines rest

-- one line before any text, which is read as what it asks for
pub record LineReadsBack (asked : Line) : Type 0 where
  pub read : reading2 (canonical2 asked) ≡ Ok (Some asked)
  pub line : (rest : List ℕ) → lines (printed2 asked ++ rest) ≡ canonical2 asked ∷ lines rest

-- a first line with the seed, and lines that ask for the commands, in order
pub record ScriptReadsBack (seed : ℕ) (commands : List Command) : Type 0 where
  pub header : header_reading (canonical_header seed) ≡ Ok seed
  pub first : (rest : List ℕ) →
      lines (printed_header seed ++ rest) ≡ canonical_header seed ∷ lines rest
  pub others : All LineReadsBack (lines_behind 0 commands)
  pub same : flat_map commands_of (lines_behind 0 commands) ≡ commands

-- the numbers of the line have 32 bits, and its glyph is one
abbrev pub LineHasValues : Line → Type 0
LineHasValues asked = HasValues (words_asking asked)

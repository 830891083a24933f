-- The grammar of format 2: its first line, which gives a seed, and its other lines, which are those
-- of format 1 and runs of frames.
use Rattle.std.specs.Prelude.{ℕ, ◌+◌, ◌≡◌, ◌<◌, ◌≤◌, ◌⊎◌, ◌==◌, ◌&&◌, if◌then◌else◌, Option, Some, None, Result, Ok, Err, IsTrue, List, [], ◌∷◌, ◌++◌, length, take, max, slice_index, codes}
use Rattle.std.specs.List.{prefix_len}
use Rattle.std.specs.Option.{option_map, option_map_or, option_or}
use Rattle.std.specs.Str.{bytes_eq}
use Rattle.orca_base.specs.Ascii.{space}
use Rattle.orca_base.specs.Numbers.{number_of}
use Rattle.orca_script.specs.declared.forms.TheConstants.{FRAMES, HEADER}
use Rattle.orca_script.specs.declared.format_2.Line.{Line}
use Rattle.orca_script.specs.declared.format_2.Line.TheVariants.{Do, Frames}
use Rattle.orca_script.specs.declared.refusal.ScriptRefusal.{ScriptRefusal}
use Rattle.orca_script.specs.Grammar.{is_space, words_of, line_forms, has_no_command, line_command}
use Rattle.orca_script.specs.LineValues.{none}
use Rattle.orca_script.specs.Reading.{Letters, reach, farthest}

-- the seed that words give: `!orca 2 seed S`
abbrev pub seed_of : List (List ℕ) → Option ℕ
seed_of (name ∷ format ∷ what ∷ number ∷ []) =
    if bytes_eq name (codes "!orca") && bytes_eq format (codes "2") && bytes_eq what (codes "seed")
    then number_of number else None
seed_of _ = None

-- the seed that a line gives: no space stands before its first word
unfoldable pub header_seed : List ℕ → Option ℕ
header_seed line = if slice_index line 0 == space then None else seed_of (words_of line)

-- how many frames words ask for: `frames N`
abbrev pub times_of : List (List ℕ) → Option ℕ
times_of (name ∷ number ∷ []) =
    if bytes_eq name (codes "frames") then number_of number else None
times_of _ = None

unfoldable pub line_frames : List ℕ → Option ℕ
line_frames line = if slice_index line 0 == space then None else times_of (words_of line)

-- what a line of format 2 asks for
unfoldable pub line_asks : List ℕ → Option Line
line_asks line =
    option_or (option_map Do (line_command line)) (option_map Frames (line_frames line))

-- the first line of format 2
abbrev pub IsHeader : List ℕ → Type 0
IsHeader line = (seed : ℕ) × (header_seed line ≡ Some seed)

-- another line of format 2
abbrev pub IsLine2 : List ℕ → Type 0
IsLine2 line = IsTrue (has_no_command line) ⊎ ((asked : Line) × (line_asks line ≡ Some asked))

-- some bytes may follow, so that it is a line of the grammar
abbrev pub Begins : (List ℕ → Type 0) → List ℕ → Type 0
Begins grammar front = (rest : List ℕ) × grammar (front ++ rest)

-- a line outside a grammar, and the column at which it leaves it: the least k such that the first k
-- bytes of the line begin no line, or one more than the length where all of them begin one
pub record LeavesAt (grammar : List ℕ → Type 0) (line : List ℕ) (column : ℕ) : Type 0 where
  pub no_line : grammar line → ⊥
  pub before : (k : ℕ) → k < column → Begins grammar (take k line)
  pub here : column ≤ length line → Begins grammar (take column line) → ⊥
  pub within : column ≤ length line + 1

-- ---- what a line is read as, as a function. The contracts of `read_header` and `read_line2` say in
-- the words of the grammar that its column is the least

-- how many bytes of a line go along the form of a run of frames, and along that of the first line
abbrev pub frames_reach : List ℕ → ℕ
frames_reach line = reach line (Letters FRAMES.0.now FRAMES.1.now) none

abbrev pub header_reach : List ℕ → ℕ
header_reach line = reach line (Letters HEADER.0.now HEADER.1.now) none

abbrev pub refused_at : {T : Type 0} → ℕ → Result T ScriptRefusal
refused_at column = Err (record { column = column })

-- what the first line is read as
unfoldable pub header_reading : List ℕ → Result ℕ ScriptRefusal
header_reading line =
    option_map_or (λ seed. Ok seed) (header_seed line) (refused_at (header_reach line + 1))

-- what another line is read as
unfoldable pub reading2 : List ℕ → Result (Option Line) ScriptRefusal
reading2 line =
    if has_no_command line then Ok None
    else option_map_or (λ asked. Ok (Some asked)) (line_asks line)
    (refused_at (max (farthest line_forms line (prefix_len is_space line)) (frames_reach line) + 1))

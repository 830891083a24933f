-- The grammar of script text: which lines ask for a command, which have none, and where a line
-- leaves the grammar.
use Rattle.std.specs.Prelude.{ℕ, ◌+◌, ◌≡◌, ◌<◌, ◌≤◌, Bool, not, ◌==◌, ◌||◌, ◌⊎◌, if◌then◌else◌, Option, Some, None, option_and_then, IsTrue, List, [], ◌∷◌, ◌++◌, length, take, filter, map, slice_index}
use Rattle.std.specs.Option.{option_map, option_or}
use Rattle.std.specs.List.{slice_split, list_all}
use Rattle.std.specs.Str.{bytes_eq}
use Rattle.orca_base.specs.Ascii.{space, hash}
use Rattle.orca_base.specs.Glyphs.{is_glyph}
use Rattle.orca_base.specs.Numbers.{number_of}
use Rattle.orca_base.specs.declared.command.Command.{Command}
use Rattle.orca_script.specs.declared.forms.Kind.{Kind}
use Rattle.orca_script.specs.declared.forms.Kind.TheVariants.{Number, Glyph, Word}
use Rattle.orca_script.specs.declared.forms.Verb.{Verb}
use Rattle.orca_script.specs.declared.forms.TheConstants.{FORMS}
use Rattle.orca_script.specs.LineValues.{LineValues, none, adding_number, with_glyph, letters_of, command_named}

abbrev pub is_space : ℕ → Bool
is_space byte = byte == space

abbrev pub is_word : List ℕ → Bool
is_word word = not (length word == 0)

-- the words of a line: what stands between its spaces
unfoldable pub words_of : List ℕ → List (List ℕ)
words_of line = filter is_word (slice_split is_space line)

-- a word that is one glyph
abbrev pub glyph_word : List ℕ → Option ℕ
glyph_word (byte ∷ []) = if is_glyph byte then Some byte else None
glyph_word _ = None

-- the values that words give by these kinds, one word for each, after those so far
unfoldable pub values_by : LineValues → List Kind → List (List ℕ) → Option LineValues
values_by values [] [] = Some values
values_by values (Number ∷ kinds) (word ∷ words) =
    option_and_then (λ number. values_by (adding_number values number) kinds words) (number_of word)
values_by values (Glyph ∷ kinds) (word ∷ words) =
    option_and_then (λ glyph. values_by (with_glyph values glyph) kinds words) (glyph_word word)
values_by values (Word fixed ∷ kinds) (word ∷ words) =
    if bytes_eq word (letters_of fixed) then values_by values kinds words else None
values_by values _ _ = None

-- a form of a line: its word, the kinds of its values, and the name of its command
pub record LineForm : Type 0 where
  pub word : List ℕ
  pub kinds : List Kind
  pub verb : Verb

-- the forms of the table
unfoldable pub line_forms : List LineForm
line_forms = map (λ row. record { word = row.0.now; kinds = row.1.now; verb = row.2 }) FORMS

-- what the words of a line give by a form: the first is the form's word, and the others are its
-- values
abbrev pub values_by_form : LineForm → List (List ℕ) → Option LineValues
values_by_form form [] = None
values_by_form form (word ∷ words) =
    if bytes_eq word form.word then values_by none form.kinds words else None

-- the command of the first of these forms that fits the words
abbrev pub command_by : List LineForm → List (List ℕ) → Option Command
command_by [] words = None
command_by (form ∷ others) words =
    option_or (option_map (command_named form.verb) (values_by_form form words))
    (command_by others words)

-- the command that a line asks for: no space stands before its first word
unfoldable pub line_command : List ℕ → Option Command
line_command line = if slice_index line 0 == space then None else command_by line_forms (words_of line)

-- a line without a command: it is empty, it is spaces alone, or it begins with `#`
abbrev pub has_no_command : List ℕ → Bool
has_no_command line = list_all is_space line || (slice_index line 0 == hash)

-- a line of the grammar
abbrev pub IsLine : List ℕ → Type 0
IsLine line =
    IsTrue (has_no_command line) ⊎ ((command : Command) × (line_command line ≡ Some command))

-- some bytes may follow, so that it is a line of the grammar
abbrev pub BeginsLine : List ℕ → Type 0
BeginsLine front = (rest : List ℕ) × IsLine (front ++ rest)

-- a line outside the grammar, and the column at which it leaves it: the least k such that the first
-- k bytes of the line begin no line, or one more than the length where all of them begin one
pub record IsRefusedAt (line : List ℕ) (column : ℕ) : Type 0 where
  pub no_line : IsLine line → ⊥
  pub before : (k : ℕ) → k < column → BeginsLine (take k line)
  pub here : column ≤ length line → BeginsLine (take column line) → ⊥
  pub within : column ≤ length line + 1

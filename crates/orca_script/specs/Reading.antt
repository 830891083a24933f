-- What a line is read as, as a function: its command is that of the grammar, and the column of a
-- refusal is found byte by byte, by how far the line goes along each form.
use Rattle.std.specs.Prelude.{ℕ, ◌+◌, ◌-◌, ◌*◌, ◌^◌, ◌==◌, nat_lt, ◌&&◌, if◌then◌else◌, Option, Some, None, Result, Ok, Err, List, [], ◌∷◌, suc, max}
use Rattle.std.specs.List.{prefix_len}
use Rattle.std.specs.Option.{option_map, option_map_or}
use Rattle.orca_base.specs.Ascii.{space, digit_zero}
use Rattle.orca_base.specs.Glyphs.{is_digit, is_glyph}
use Rattle.orca_base.specs.declared.command.Command.{Command}
use Rattle.orca_base.specs.declared.limits.TheConstants.{MAX_DIGITS}
use Rattle.orca_script.specs.declared.forms.Kind.{Kind}
use Rattle.orca_script.specs.declared.forms.Kind.TheVariants.{Number, Glyph, Word}
use Rattle.orca_script.specs.declared.refusal.ScriptRefusal.{ScriptRefusal}
use Rattle.orca_script.specs.LineValues.{LineValues, none, adding_number, with_glyph, letters_of}
use Rattle.orca_script.specs.Grammar.{is_space, LineForm, line_forms, has_no_command, line_command}

-- what may come next on a line of a form
pub data Next : Type 0 where
  -- these letters, then a space or the end of the line, and values of these kinds
  Letters : List ℕ → List Kind → Next
  -- a space has come: more of them, and values of these kinds
  Blank : List Kind → Next
  -- so many digits of a number have come, with this value: more of them, and values of these kinds
  Digits : ℕ → ℕ → List Kind → Next

-- what may come next, and the values so far
pub record ReadState : Type 0 where
  pub next : Next
  pub values : LineValues

abbrev pub state : Next → LineValues → ReadState
state next values = record { next = next; values = values }

-- a form of which nothing is read
abbrev pub nothing_read : LineForm → ReadState
nothing_read form = state (Letters form.word form.kinds) none

-- the value of a number with one digit more
abbrev pub with_digit : ℕ → ℕ → ℕ
with_digit value byte = value * 10 + (byte - digit_zero)

-- a number of so many digits and this value, with one digit more
abbrev pub longer_number : ℕ → ℕ → ℕ → Option (ℕ × ℕ)
longer_number count value byte =
    if is_digit byte && nat_lt count MAX_DIGITS && nat_lt (with_digit value byte) (2 ^ 32)
    then Some (count + 1, with_digit value byte) else None

abbrev pub digits_state : List Kind → LineValues → ℕ × ℕ → ReadState
digits_state kinds values number = state (Digits number.0 number.1 kinds) values

-- the state after the first letter of a word
abbrev pub word_start : List ℕ → List Kind → LineValues → ℕ → Option ReadState
word_start [] kinds values byte = None
word_start (letter ∷ word) kinds values byte =
    if byte == letter then Some (state (Letters word kinds) values) else None

-- the state after the first byte of a value; a glyph has no other
abbrev pub value_start : List Kind → LineValues → ℕ → Option ReadState
value_start [] values byte = None
value_start (Number ∷ kinds) values byte =
    option_map (digits_state kinds values) (longer_number 0 0 byte)
value_start (Glyph ∷ kinds) values byte =
    if is_glyph byte then Some (state (Letters [] kinds) (with_glyph values byte)) else None
value_start (Word fixed ∷ kinds) values byte = word_start (letters_of fixed) kinds values byte

-- the state after one more byte; none where the line leaves the form there
unfoldable pub step : Next → LineValues → ℕ → Option ReadState
step (Letters (letter ∷ word) kinds) values byte =
    if byte == letter then Some (state (Letters word kinds) values) else None
step (Letters [] kinds) values byte =
    if byte == space then Some (state (Blank kinds) values) else None
step (Blank kinds) values byte =
    if byte == space then Some (state (Blank kinds) values) else value_start kinds values byte
step (Digits count value kinds) values byte =
    if byte == space then Some (state (Blank kinds) (adding_number values value))
    else option_map (digits_state kinds values) (longer_number count value byte)

-- how many bytes go along a form: as long as there is a next state
abbrev pub reach : List ℕ → Next → LineValues → ℕ
reach [] next values = 0
reach (byte ∷ bytes) next values =
    option_map_or (λ s. suc (reach bytes s.next s.values)) (step next values byte) 0

-- the most bytes that go along one of these forms, or this number if it is larger
abbrev pub farthest : List LineForm → List ℕ → ℕ → ℕ
farthest [] line most = most
farthest (form ∷ others) line most =
    farthest others line (max most (reach line (nothing_read form).next (nothing_read form).values))

-- the column after the bytes that are spaces before any other byte, or go along a form. The
-- contract of `read_line` says that it is the least, in the words of the grammar
abbrev pub column_of : List ℕ → ℕ
column_of line = farthest line_forms line (prefix_len is_space line) + 1

-- what a line is read as: it has no command, or one by the grammar, or is refused at a column
unfoldable pub reading : List ℕ → Result (Option Command) ScriptRefusal
reading line =
    if has_no_command line then Ok None
    else option_map_or (λ command. Ok (Some command)) (line_command line)
    (Err (record { column = column_of line }))

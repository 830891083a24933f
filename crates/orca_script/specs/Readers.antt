-- What the functions of the reader give, and how they hold it.
use Rattle.std.specs.Prelude.{ℕ, ◌+◌, Option, Some, None, Result, Ok, Err, ok_or, List, [], ◌∷◌, length, slice_index, suc, max}
use Rattle.std.specs.Borrow.{Bor}
use Rattle.std.specs.List.{prefix_len}
use Rattle.std.specs.Option.{option_map_or}
use Rattle.std.specs.Result.{result_map_both}
use Rattle.orca_base.specs.declared.command.Command.{Command}
use Rattle.orca_script.specs.declared.forms.Kind.{Kind}
use Rattle.orca_script.specs.declared.forms.TheConstants.{FRAMES}
use Rattle.orca_script.specs.declared.forms.Verb.{Verb}
use Rattle.orca_script.specs.declared.format_2.Line.{Line}
use Rattle.orca_script.specs.declared.format_2.Line.TheVariants.{Do, Frames}
use Rattle.orca_script.specs.declared.reader.Next.{Next as Held}
use Rattle.orca_script.specs.declared.reader.Next.TheVariants as held
use Rattle.orca_script.specs.LineValues.{LineValues, none, adding_number, command_named}
use Rattle.orca_script.specs.Grammar.{is_space, LineForm, line_forms}
use Rattle.orca_script.specs.Reading.{Next, Letters, Blank, Digits, ReadState, state, nothing_read, step}

-- what comes next, as the reader holds it
abbrev pub next_of : Held → Next
next_of (held.Letters word kinds) = Letters word.now kinds.now
next_of (held.Blank kinds) = Blank kinds.now
next_of (held.Digits count value kinds) = Digits count value kinds.now

-- how many values may still come
abbrev pub values_left : Next → ℕ
values_left (Letters word kinds) = length kinds
values_left (Blank kinds) = length kinds
values_left (Digits count value kinds) = suc (length kinds)

-- a row of the table
abbrev pub form_of : Bor (List ℕ) × Bor (List Kind) × Verb → LineForm
form_of row = record { word = row.0.now; kinds = row.1.now; verb = row.2 }

-- the values where the line ends; none where the form goes on
unfoldable pub values_at_end : Next → LineValues → Option LineValues
values_at_end (Letters [] []) values = Some values
values_at_end (Blank []) values = Some values
values_at_end (Digits count value []) values = Some (adding_number values value)
values_at_end _ values = None

-- what the bytes after the first i give, or how many bytes go along the form
unfoldable pub read_on : List ℕ → ℕ → ReadState → Result LineValues ℕ
read_on [] i s = ok_or (values_at_end s.next s.values) i
read_on (byte ∷ bytes) i s =
    option_map_or (read_on bytes (i + 1)) (step s.next s.values byte) (Err i)

-- the command of a line by a form; else how many of its bytes go along the form
abbrev pub read_form : LineForm → List ℕ → Result Command ℕ
read_form form line =
    result_map_both (command_named form.verb) (λ count. count) (read_on line 0 (nothing_read form))

-- the first number of a line by a form of this word and these kinds; else how many of its bytes go
-- along the form
abbrev pub read_number : List ℕ → List Kind → List ℕ → Result ℕ ℕ
read_number word kinds line =
    result_map_both (λ values. slice_index values.numbers 0) (λ count. count)
    (read_on line 0 (state (Letters word kinds) none))

-- what is read, or what another number leads to
abbrev pub or_else_read : (ℕ → Result Command ℕ) → Result Command ℕ → Result Command ℕ
or_else_read others (Ok command) = Ok command
or_else_read others (Err count) = others count

-- the command of the first of these forms that fits the line; else how many of its bytes go along
-- one of them, or this number if it is larger
unfoldable pub read_by : List LineForm → List ℕ → ℕ → Result Command ℕ
read_by [] line most = Err most
read_by (form ∷ others) line most =
    or_else_read (λ count. read_by others line (max most count)) (read_form form line)

-- what a line asks for by this command, or else by this number of frames; else how many of its bytes
-- go along a form
abbrev pub or_else_frames : Result ℕ ℕ → Result Command ℕ → Result Line ℕ
or_else_frames other (Ok command) = Ok (Do command)
or_else_frames (Ok times) (Err count) = Ok (Frames times)
or_else_frames (Err other) (Err count) = Err (max count other)

-- what a line of format 2 asks for; else how many of its bytes are spaces before any other byte, or
-- go along a form
abbrev pub asked_by : List ℕ → Result Line ℕ
asked_by line =
    or_else_frames (read_number FRAMES.0.now FRAMES.1.now line)
    (read_by line_forms line (prefix_len is_space line))

-- What the words of a line after the first give, and the command that is made of it.
use Rattle.std.specs.Prelude.{ℕ, List, [], ◌∷◌, ◌++◌, slice_index, codes}
use Rattle.orca_base.specs.Glyphs.{empty}
use Rattle.orca_base.specs.declared.area.Rect.{Rect}
use Rattle.orca_base.specs.declared.command.Command.{Command}
use Rattle.orca_base.specs.declared.command.Command.TheVariants as command
use Rattle.orca_script.specs.declared.forms.Fixed.{Fixed}
use Rattle.orca_script.specs.declared.forms.Fixed.TheVariants.{Two, Seed}
use Rattle.orca_script.specs.declared.forms.Verb.{Verb}
use Rattle.orca_script.specs.declared.forms.Verb.TheVariants.{Frame, Write, Fill, Erase, Copy, Cut, Clip, Paste, Move, Resize, Reset, Undo, Rewind, Redo, Retract, Hush}

-- the letters of a word that stands for nothing
abbrev pub letters_of : Fixed → List ℕ
letters_of Two = codes "2"
letters_of Seed = codes "seed"

-- the numbers of a line, in order, and its glyph, where it has one
pub record LineValues : Type 0 where
  pub numbers : List ℕ
  pub glyph : ℕ

abbrev pub none : LineValues
none = record { numbers = []; glyph = empty }

abbrev pub adding_number : LineValues → ℕ → LineValues
adding_number values number = record values { numbers = values.numbers ++ number ∷ [] }

abbrev pub with_glyph : LineValues → ℕ → LineValues
with_glyph values glyph = record values { glyph = glyph }

-- the block of the first four numbers
abbrev pub rect_of : LineValues → Rect
rect_of values = record {
  y = slice_index values.numbers 0;
  x = slice_index values.numbers 1;
  h = slice_index values.numbers 2;
  w = slice_index values.numbers 3;
}

-- the command of a name, made of what the words give
unfoldable pub command_named : Verb → LineValues → Command
command_named Frame values = command.Frame
command_named Write values =
    command.Write (slice_index values.numbers 0) (slice_index values.numbers 1) values.glyph
command_named Fill values = command.Fill (rect_of values) values.glyph
command_named Erase values = command.Erase (rect_of values)
command_named Copy values = command.Copy (rect_of values)
command_named Cut values = command.Cut (rect_of values)
command_named Clip values =
    command.Clip (slice_index values.numbers 0) (slice_index values.numbers 1) values.glyph
command_named Paste values =
    command.Paste (slice_index values.numbers 0) (slice_index values.numbers 1)
command_named Move values =
    command.Move (rect_of values) (slice_index values.numbers 4) (slice_index values.numbers 5)
command_named Resize values =
    command.Resize (slice_index values.numbers 0) (slice_index values.numbers 1)
command_named Reset values = command.Reset
command_named Undo values = command.Undo
command_named Rewind values = command.Rewind (slice_index values.numbers 0)
command_named Redo values = command.Redo
command_named Retract values = command.Retract (slice_index values.numbers 0)
command_named Hush values = command.Hush

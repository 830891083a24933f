-- The small terminal: cells, a cursor and a style. Forms move the cursor, set the style, or show a
-- byte in the cell at the cursor.
use Rattle.std.specs.Prelude.{ℕ, ◌+◌, ◌-◌, ◌*◌, Bool, ◌&&◌, nat_lt, if◌then◌else◌, List, [], fold, replicate, slice_set, slice_index_or, unwrap_or, IsSome}
use Rattle.orca_term.specs.Forms.{forms_of}
use Rattle.orca_term.specs.Picture.{blank_cell, plain, screen_cells}
use Rattle.orca_term.specs.declared.cell.Cell.{Cell}
use Rattle.orca_term.specs.declared.cell.ScreenSize.{ScreenSize}
use Rattle.orca_term.specs.declared.forms.Form.{Form}
use Rattle.orca_term.specs.declared.forms.Form.TheVariants.{GoTo, Style, Show}

-- the size, the cells in reading order, the row and the column of the cursor, counted from 0, and
-- the style that is in force
pub record Terminal : Type 0 where
  pub size : ScreenSize
  pub cells : List Cell
  pub y : ℕ
  pub x : ℕ
  pub style : ℕ

-- every cell blank, the cursor at the top left, and no style
abbrev pub fresh_terminal : ScreenSize → Terminal
fresh_terminal d = record { size = d; cells = replicate (screen_cells d) blank_cell; y = 0; x = 0; style = plain }

-- whether the cursor lies on a cell
abbrev pub is_on_cell : Terminal → Bool
is_on_cell t = nat_lt t.y t.size.rows && nat_lt t.x t.size.columns

-- the byte stands in the cell at the cursor, with the style that is in force, and the cursor goes
-- one to the right
abbrev pub with_byte : Terminal → ℕ → Terminal
with_byte t byte = record t {
  cells = slice_set t.cells (t.y * t.size.columns + t.x) (record { byte = byte; style = t.style });
  x = t.x + 1;
}

-- the terminal after a form; a byte for a cursor outside the cells changes nothing
unfoldable pub after_form : Terminal → Form → Terminal
after_form t (GoTo row column) = record t { y = row - 1; x = column - 1 }
after_form t (Style style) = record t { style = style }
after_form t (Show byte) = if is_on_cell t then with_byte t byte else t

-- the terminal after forms
unfoldable pub after_forms : Terminal → List Form → Terminal
after_forms t forms = fold after_form t forms

-- bytes that are a sequence of whole forms
abbrev pub IsWhole : List ℕ → Type 0
IsWhole bytes = IsSome (forms_of bytes)

-- the terminal after bytes that are whole forms
abbrev pub after_bytes : Terminal → List ℕ → Terminal
after_bytes t bytes = after_forms t (unwrap_or (forms_of bytes) [])

-- the cell of a row and a column
abbrev pub terminal_cell : Terminal → ℕ → ℕ → Cell
terminal_cell t y x = slice_index_or t.cells (y * t.size.columns + x) blank_cell

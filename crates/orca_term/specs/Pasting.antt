-- A text that is pasted into the terminal. It is read as the text of a grid is, and becomes the
-- clip, cell by cell; at its end the clip is pasted.
use Rattle.std.specs.Prelude.{ℕ, ◌+◌, Bool, false, true, not, ◌&&◌, ◌==◌, nat_lt, min, if◌then◌else◌, Some, None}
use Rattle.orca_base.specs.Glyphs.{empty}
use Rattle.orca_base.specs.declared.command.Command.TheVariants as command
use Rattle.orca_base.specs.declared.limits.TheConstants.{MAX_SCREEN_ROWS, MAX_SCREEN_COLUMNS}
use Rattle.orca_term.specs.declared.editor.Editor.{Editor}
use Rattle.orca_term.specs.declared.editor.Wish.{Wish}
use Rattle.orca_term.specs.declared.editor.Wish.TheVariants as wish
use Rattle.orca_term.specs.declared.flow.Flow.{Flow}
use Rattle.orca_term.specs.declared.keys.Key.{Key}
use Rattle.orca_term.specs.declared.keys.Key.TheVariants as key

-- a text of which nothing was read
abbrev pub new_flow : Flow
new_flow = record { y = 0; x = 0; returned = false }

-- the text has a cell
abbrev pub is_begun : Flow → Bool
is_begun f = not (f.y == 0 && f.x == 0)

-- after a cell, also one that is not taken
abbrev pub next_cell : Flow → Flow
next_cell f = record { y = f.y; x = min (f.x + 1) MAX_SCREEN_COLUMNS; returned = false }

-- after a newline, which was a Return or not: those before the first cell are dropped
abbrev pub next_row : Bool → Flow → Flow
next_row returned f =
    let y = if is_begun f then min (f.y + 1) MAX_SCREEN_ROWS else 0 in
    record { y = y; x = 0; returned = returned }

-- the text after a key: spaces and tabs are cells, and a Line after a Return belongs to it
abbrev pub flow_after : Key → Flow → Flow
flow_after (key.Glyph glyph) f = next_cell f
flow_after key.Pause f = next_cell f
flow_after key.Append f = next_cell f
flow_after key.Return f = next_row true f
flow_after key.Line f = if f.returned then record f { returned = false } else next_row false f
flow_after _ f = f

-- what a key makes of the editor inside a text
abbrev pub flowed : Key → Flow → Editor → Editor
flowed key.PasteEnd f e = record e { flow = None }
flowed key.Escape f e = record e { flow = None }
flowed key f e = record e { flow = Some (flow_after key f) }

-- a cell of the text, if it is taken
abbrev pub cell_wish : Flow → ℕ → Wish
cell_wish f glyph =
    if nat_lt f.y MAX_SCREEN_ROWS && nat_lt f.x MAX_SCREEN_COLUMNS
    then wish.Do (command.Clip f.y f.x glyph) else wish.Nothing

-- what a key asks for inside a text. The size of the screen is not the user's
abbrev pub flow_wish : Key → Flow → Editor → Wish
flow_wish (key.Glyph glyph) f e = cell_wish f glyph
flow_wish key.Pause f e = cell_wish f empty
flow_wish key.Append f e = cell_wish f empty
flow_wish key.PasteEnd f e =
    if is_begun f then wish.Do (command.Paste e.y e.x) else wish.Nothing
flow_wish (key.Screen rows columns) f e =
    wish.Redraw (Some (record { rows = rows; columns = columns }))
flow_wish _ f e = wish.Nothing

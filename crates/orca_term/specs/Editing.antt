-- The editor: a cursor, and a selection that reaches from it downwards and to the right.
use Rattle.std.specs.Prelude.{ℕ, ◌+◌, ◌-◌, ◌*◌, ◌/◌, Bool, false, not, ◌&&◌, ◌==◌, max, min, nat_lt, if◌then◌else◌, Some, None, is_some, unwrap_or}
use Rattle.std.specs.Option.{option_map_or}
use Rattle.orca_base.specs.declared.area.Area.{Area}
use Rattle.orca_base.specs.declared.area.Rect.{Rect}
use Rattle.orca_base.specs.declared.command.Command.TheVariants as command
use Rattle.orca_base.specs.declared.limits.TheConstants.{BACK_MOMENTS}
use Rattle.orca_base.specs.declared.place.Place.{Place}
use Rattle.orca_base.specs.Grids.{Size}
use Rattle.orca_term.specs.Pasting.{new_flow, flowed, flow_wish}
use Rattle.orca_term.specs.declared.around.Around.{Around}
use Rattle.orca_term.specs.declared.cell.ScreenSize.{ScreenSize}
use Rattle.orca_term.specs.declared.editor.Wish.{Wish}
use Rattle.orca_term.specs.declared.editor.Wish.TheVariants as wish
use Rattle.orca_term.specs.declared.editor.Editor.{Editor}
use Rattle.orca_term.specs.declared.limits.TheConstants.{HELP_PAGES}
use Rattle.orca_term.specs.declared.keys.Deed.TheVariants.{Move, Stretch, Slide, Grow}
use Rattle.orca_term.specs.declared.keys.Key.{Key}
use Rattle.orca_term.specs.declared.keys.Key.TheVariants as key
use Rattle.orca_term.specs.declared.keys.Side.{Side}
use Rattle.orca_term.specs.declared.keys.Side.TheVariants.{Up, Down, Left, Right}

-- the first place, a selection of that place alone, and no pause. With full keys the guide shows
abbrev pub new_editor : Bool → Editor
new_editor full = record {
  y = 0;
  x = 0;
  h = 1;
  w = 1;
  paused = false;
  append = false;
  guide = full;
  anchor = record { y = 0; x = 0 };
  flow = None;
  page = 0;
  traffic = false;
}

-- the selection
abbrev pub area_of : Editor → Area
area_of e = record { y = e.y; x = e.x; h = e.h; w = e.w }

-- the selection as a user names it
abbrev pub selection_rect : Editor → Rect
selection_rect e = record { y = e.y; x = e.x; h = e.h; w = e.w }

-- the cursor on this row and column
abbrev pub with_cursor : Editor → ℕ → ℕ → Editor
with_cursor e y x = record e { y = y; x = x }

-- a selection of this size
abbrev pub with_selection : Editor → ℕ → ℕ → Editor
with_selection e h w = record e { h = h; w = w }

-- the selection cut to the grid, with at least the cursor's place in it
abbrev pub cut_to_grid : Size → Editor → Editor
cut_to_grid d e = with_selection e (max 1 (min e.h (d.h - e.y))) (max 1 (min e.w (d.w - e.x)))

-- the cursor brought into the grid, and then the selection
abbrev pub editor_inside : Size → Editor → Editor
editor_inside d e = cut_to_grid d (with_cursor e (min e.y (d.h - 1)) (min e.x (d.w - 1)))

-- a pair of numbers, one of them less or more by n: up and down step the first, left and right the
-- second
abbrev pub stepped : Side → ℕ → ℕ × ℕ → ℕ × ℕ
stepped Up n p = (p.0 - n, p.1)
stepped Down n p = (p.0 + n, p.1)
stepped Left n p = (p.0, p.1 - n)
stepped Right n p = (p.0, p.1 + n)

-- the cursor goes there, as far as the grid reaches
abbrev pub moved_to : Size → Editor → ℕ × ℕ → Editor
moved_to d e at = cut_to_grid d (with_cursor e (min at.0 (d.h - 1)) (min at.1 (d.w - 1)))

-- where the selection's block slides, as far as all of it stays in the grid
abbrev pub slid : Side → ℕ → Size → Editor → ℕ × ℕ
slid side by d e =
    let at = stepped side by (e.y, e.x) in (min at.0 (d.h - e.h), min at.1 (d.w - e.w))

-- a glyph was typed
abbrev pub typed : Size → Editor → Editor
typed d e = if e.append then moved_to d e (stepped Right 1 (e.y, e.x)) else e

-- what Rub erases: while typing goes on, the one place before the cursor
abbrev pub rubbed : Editor → Editor
rubbed e = if e.append && e.h == 1 && e.w == 1 then with_cursor e e.y (e.x - 1) else e

-- ---- the window and the mouse

-- the start of the page of so many that a number lies on
abbrev pub page_of : ℕ → ℕ → ℕ
page_of side n = n / side * side

-- the place that a cell of the window shows: the window is the page of the grid on which the cursor
-- lies
abbrev pub window_place : ScreenSize → Editor → ℕ → ℕ → Place
window_place d e y x = record { y = page_of (d.rows - 1) e.y + y; x = page_of d.columns e.x + x }

-- the nearest place of a grid
abbrev pub place_inside : Size → Place → Place
place_inside d at = record { y = min at.y (d.h - 1); x = min at.x (d.w - 1) }

-- the place of a cell of the screen, or the nearest one that the window shows
abbrev pub pointed : Around → Editor → ℕ → ℕ → Place
pointed a e row column =
    place_inside a.dims (window_place a.screen e (min row (a.screen.rows - 2))
    (min column (a.screen.columns - 1)))

-- a click
abbrev pub pressed : Place → Editor → Editor
pressed at e = record e { y = at.y; x = at.x; h = 1; w = 1; anchor = at }

-- the selection from one place to another
abbrev pub spanned : Place → Place → Editor → Editor
spanned from to e =
    let y = min from.y to.y in
    let x = min from.x to.x in
    record e { y = y; x = x; h = max from.y to.y - y + 1; w = max from.x to.x - x + 1 }

-- ---- keys

-- what a key makes of the editor outside a text that is pasted
abbrev pub edited : Key → Around → Editor → Editor
edited (key.Arrow Move side by) a e = moved_to a.dims e (stepped side by (e.y, e.x))
edited (key.Arrow Stretch side by) a e =
    let size = stepped side by (e.h, e.w) in cut_to_grid a.dims (with_selection e size.0 size.1)
edited (key.Arrow Slide side by) a e =
    let at = slid side by a.dims e in with_cursor e at.0 at.1
edited (key.Glyph glyph) a e = typed a.dims e
edited key.Rub a e = rubbed e
edited key.All a e = record e { y = 0; x = 0; h = a.dims.h; w = a.dims.w }
edited key.Escape a e = record e { h = 1; w = 1; append = false }
edited key.Append a e = record e { append = not e.append }
edited key.Guide a e = record e { guide = not e.guide }
edited key.Pause a e = record e { paused = not e.paused }
edited key.Traffic a e = record e { traffic = not e.traffic }
edited (key.Press row column) a e = pressed (pointed a e row column) e
edited (key.Drag row column) a e =
    spanned (place_inside a.dims e.anchor) (pointed a e row column) e
edited _ a e = e

-- what a key asks for outside such a text
abbrev pub wished : Key → Around → Editor → Wish
wished (key.Arrow Slide side by) a e =
    let at = slid side by a.dims e in
    if at.0 == e.y && at.1 == e.x then wish.Nothing
    else wish.Do (command.Move (selection_rect e) at.0 at.1)
wished (key.Arrow Grow side by) a e =
    let size = stepped side by (a.dims.h, a.dims.w) in wish.Do (command.Resize size.0 size.1)
wished (key.Glyph glyph) a e = wish.Do (command.Write e.y e.x glyph)
wished key.Fill a e = wish.Do (command.Fill (selection_rect e) a.glyph)
wished key.Rub a e = wish.Do (command.Erase (selection_rect (rubbed e)))
wished key.Erase a e = wish.Do (command.Erase (selection_rect e))
wished key.Copy a e = wish.Do (command.Copy (selection_rect e))
wished key.Cut a e = wish.Do (command.Cut (selection_rect e))
wished key.Paste a e = wish.Do (command.Paste e.y e.x)
wished key.Undo a e = wish.Do command.Undo
wished key.Redo a e = wish.Do command.Redo
wished key.Retract a e = wish.Do (command.Retract (unwrap_or a.own a.moments))
wished key.Hush a e = wish.Do command.Hush
wished key.Reset a e = wish.Do command.Reset
wished key.Step a e = wish.Do command.Frame
wished key.Back a e = wish.Do (command.Rewind (a.moments - BACK_MOMENTS))
wished key.Pause a e = wish.Toggle
wished key.Save a e = wish.Save
wished key.Quit a e = wish.Quit
wished (key.Slower beats) a e = wish.Slower beats
wished (key.Faster beats) a e = wish.Faster beats
wished key.Redraw a e = wish.Redraw None
wished (key.Screen rows columns) a e =
    wish.Redraw (Some (record { rows = rows; columns = columns }))
wished _ a e = wish.Nothing

-- the page of help after the one of a number; after the last one none is shown
abbrev pub next_page : ℕ → ℕ
next_page page = if nat_lt page HELP_PAGES then page + 1 else 0

-- the page after a key, where a text is read or not: Help turns to the next one outside a text, the
-- size of the terminal and Redraw leave it, and any other key closes it
abbrev pub page_after : Key → Bool → ℕ → ℕ
page_after key.Help text page = if text then page else next_page page
page_after (key.Screen rows columns) text page = page
page_after key.Redraw text page = page
page_after _ text page = 0

-- what a key makes of the page, also one that is denied
abbrev pub turned_page : Key → Editor → Editor
turned_page key e = record e { page = page_after key (is_some e.flow) e.page }

-- what it makes of all else
abbrev pub written : Key → Around → Editor → Editor
written key.PasteBegin a e = record e { flow = Some new_flow }
written key a e = option_map_or (λ f. flowed key f e) e.flow (edited key a e)

-- what a key makes of the editor
abbrev pub editor_after : Key → Around → Editor → Editor
editor_after key a e = record (written key a e) { page = (turned_page key e).page }

-- what a key asks for
abbrev pub wish_of : Key → Around → Editor → Wish
wish_of key a e = option_map_or (λ f. flow_wish key f e) e.flow (wished key a e)

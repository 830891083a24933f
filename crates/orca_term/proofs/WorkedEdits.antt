-- What full keys make of the editor, and ask for, in a grid of 25 x 57, computed by the
-- definitions.
use Rattle.std.specs.Prelude.{◌≡◌, ℕ, false, true, Some, None, refl}
use Rattle.orca_base.specs.declared.area.Rect.{Rect}
use Rattle.orca_base.specs.declared.command.Command.TheVariants as command
use Rattle.orca_term.specs.Editing.{editor_after, wish_of}
use Rattle.orca_term.specs.Pasting.{new_flow}
use Rattle.orca_term.specs.declared.around.Around.{Around}
use Rattle.orca_term.specs.declared.editor.Editor.{Editor}
use Rattle.orca_term.specs.declared.editor.Wish.{Wish}
use Rattle.orca_term.specs.declared.editor.Wish.TheVariants as wish
use Rattle.orca_term.specs.declared.keys.Deed.TheVariants.{Move, Stretch, Slide, Grow}
use Rattle.orca_term.specs.declared.keys.Key.{Key}
use Rattle.orca_term.specs.declared.keys.Key.TheVariants as key
use Rattle.orca_term.specs.declared.keys.Side.TheVariants.{Up, Down, Left, Right}

-- a grid of this size on a screen of this size, with `D` at the cursor
abbrev around : ℕ → ℕ → ℕ → ℕ → Around
around h w rows columns = record {
  dims = record { h = h; w = w };
  moments = 9;
  glyph = 68;
  screen = record { rows = rows; columns = columns };
  own = Some 5;
}

abbrev plain : Around
plain = around 25 57 24 80

-- the editor at a place, with a selection of this size
abbrev at : ℕ → ℕ → ℕ → ℕ → Editor
at y x h w = record {
  y = y;
  x = x;
  h = h;
  w = w;
  paused = false;
  append = false;
  guide = true;
  anchor = record { y = 0; x = 0 };
  flow = None;
  page = 0;
  traffic = false;
}

-- the same while typing goes on
abbrev going : Editor → Editor
going e = record e { append = true }

abbrev rect : ℕ → ℕ → ℕ → ℕ → Rect
rect y x h w = record { y = y; x = x; h = h; w = w }

-- what a key gives in an editor: a wish, and the editor after it
abbrev given : Key → Around → Editor → Wish × Editor
given k a e = (wish_of k a e, editor_after k a e)

abbrev pressed : Key → Editor → Wish × Editor
pressed k e = given k plain e

leap_down : pressed (key.Arrow Move Down 8) (at 20 3 1 1) ≡ (wish.Nothing, at 24 3 1 1)
leap_down = refl

-- the selection is cut
end_key : pressed (key.Arrow Move Right 1024) (at 5 3 2 4) ≡ (wish.Nothing, at 5 56 2 1)
end_key = refl

stretch_down : pressed (key.Arrow Stretch Down 8) (at 20 50 1 1) ≡ (wish.Nothing, at 20 50 5 1)
stretch_down = refl

-- a selection never gets empty
stretch_to_none : pressed (key.Arrow Stretch Left 1024) (at 20 50 1 5)
    ≡ (wish.Nothing, at 20 50 1 1)
stretch_to_none = refl

-- a block slides as far as all of it stays in the grid
slide_down : pressed (key.Arrow Slide Down 8) (at 16 3 2 4)
    ≡ (wish.Do (command.Move (rect 16 3 2 4) 23 3), at 23 3 2 4)
slide_down = refl

no_room : pressed (key.Arrow Slide Up 1) (at 0 3 2 4) ≡ (wish.Nothing, at 0 3 2 4)
no_room = refl

fewer_columns : pressed (key.Arrow Grow Left 8) (at 0 0 1 1)
    ≡ (wish.Do (command.Resize 25 49), at 0 0 1 1)
fewer_columns = refl

-- not clamped: the session refuses it
no_columns : wish_of (key.Arrow Grow Left 8) (around 25 6 24 80) (at 0 0 1 1)
    ≡ wish.Do (command.Resize 25 0)
no_columns = refl

rub_back : pressed key.Rub (going (at 4 4 1 1))
    ≡ (wish.Do (command.Erase (rect 4 3 1 1)), going (at 4 3 1 1))
rub_back = refl

rub_block : pressed key.Rub (going (at 4 4 2 2))
    ≡ (wish.Do (command.Erase (rect 4 4 2 2)), going (at 4 4 2 2))
rub_block = refl

-- in the first column the place at the cursor is erased
rub_first : pressed key.Rub (going (at 4 0 1 1))
    ≡ (wish.Do (command.Erase (rect 4 0 1 1)), going (at 4 0 1 1))
rub_first = refl

-- Delete leaves the cursor, also while typing goes on
delete : pressed key.Erase (going (at 4 4 1 1))
    ≡ (wish.Do (command.Erase (rect 4 4 1 1)), going (at 4 4 1 1))
delete = refl

last_column : pressed (key.Glyph 68) (going (at 4 56 2 1))
    ≡ (wish.Do (command.Write 4 56 68), going (at 4 56 2 1))
last_column = refl

-- a glyph that is typed takes the cursor on, and the selection is cut
typed_on : pressed (key.Glyph 68) (going (at 4 54 2 3))
    ≡ (wish.Do (command.Write 4 54 68), going (at 4 55 2 2))
typed_on = refl

typed_in_place : pressed (key.Glyph 68) (at 4 54 2 3)
    ≡ (wish.Do (command.Write 4 54 68), at 4 54 2 3)
typed_in_place = refl

escape : pressed key.Escape (going (at 4 4 2 2)) ≡ (wish.Nothing, at 4 4 1 1)
escape = refl

all : pressed key.All (going (at 4 4 2 2)) ≡ (wish.Nothing, going (at 0 0 25 57))
all = refl

size : wish_of (key.Screen 3 10) plain (at 4 4 1 1)
    ≡ wish.Redraw (Some (record { rows = 3; columns = 10 }))
size = refl

-- the whole selection, with the glyph at the cursor
fill : pressed key.Fill (at 2 3 2 4) ≡ (wish.Do (command.Fill (rect 2 3 2 4) 68), at 2 3 2 4)
fill = refl

-- ---- the mouse

-- the same after a click on a place
abbrev anchored : ℕ → ℕ → Editor → Editor
anchored y x e = record e { anchor = record { y = y; x = x } }

click : pressed (key.Press 2 10) (at 4 4 3 3) ≡ (wish.Nothing, anchored 2 10 (at 2 10 1 1))
click = refl

-- on the status row, at the right of the grid
click_beside : pressed (key.Press 23 60) (at 20 3 1 1)
    ≡ (wish.Nothing, anchored 22 56 (at 22 56 1 1))
click_beside = refl

-- on the second page, whose only row this is
second_page : pressed (key.Press 1 5) (at 24 3 1 1) ≡ (wish.Nothing, anchored 24 5 (at 24 5 1 1))
second_page = refl

below_the_grid : pressed (key.Press 9 5) (at 24 3 1 1)
    ≡ (wish.Nothing, anchored 24 5 (at 24 5 1 1))
below_the_grid = refl

-- rows 3 to 5 and columns 8 to 15 are shown
page_amid : given (key.Press 3 7) (around 9 20 4 8) (at 3 8 1 1)
    ≡ (wish.Nothing, anchored 5 15 (at 5 15 1 1))
page_amid = refl

drag_up : pressed (key.Drag 2 14) (anchored 5 10 (at 5 10 1 1))
    ≡ (wish.Nothing, anchored 5 10 (at 2 10 4 5))
drag_up = refl

drag_beyond : pressed (key.Drag 99 79) (anchored 5 10 (at 5 10 1 1))
    ≡ (wish.Nothing, anchored 5 10 (at 5 10 18 47))
drag_beyond = refl

-- a drag back from the last place of the one before
drag_back : pressed (key.Drag 5 10) (anchored 5 10 (at 2 10 4 5))
    ≡ (wish.Nothing, anchored 5 10 (at 5 10 1 1))
drag_back = refl

-- the anchor lies outside a grid that is smaller now, and stays
anchor_outside : given (key.Drag 0 0) (around 10 20 24 80) (anchored 24 50 (at 3 3 1 1))
    ≡ (wish.Nothing, anchored 24 50 (at 0 0 10 20))
anchor_outside = refl

over_two_pages : given (key.Drag 0 0) (around 9 20 4 8) (anchored 1 1 (at 7 17 1 1))
    ≡ (wish.Nothing, anchored 1 1 (at 1 1 6 16))
over_two_pages = refl

-- before any click a drag reaches from the first place
drag_first : pressed (key.Drag 1 2) (at 4 4 1 1) ≡ (wish.Nothing, at 0 0 2 3)
drag_first = refl

-- arrows, the wheel, All and Escape leave the anchor
arrow_between : pressed (key.Arrow Move Down 1) (anchored 5 10 (at 2 10 4 5))
    ≡ (wish.Nothing, anchored 5 10 (at 3 10 4 5))
arrow_between = refl

wheel_at_the_edge : pressed (key.Arrow Move Up 8) (anchored 5 10 (at 2 10 4 5))
    ≡ (wish.Nothing, anchored 5 10 (at 0 10 4 5))
wheel_at_the_edge = refl

all_between : pressed key.All (anchored 5 10 (at 2 10 4 5))
    ≡ (wish.Nothing, anchored 5 10 (at 0 0 25 57))
all_between = refl

escape_between : pressed key.Escape (anchored 5 10 (at 2 10 4 5))
    ≡ (wish.Nothing, anchored 5 10 (at 2 10 1 1))
escape_between = refl

-- ---- what is taken back, and what is shown

take_back : pressed key.Retract (at 2 3 2 4) ≡ (wish.Do (command.Retract 5), at 2 3 2 4)
take_back = refl

-- the session refuses it
nothing_to_take_back : wish_of key.Retract (record plain { own = None }) (at 2 3 2 4)
    ≡ wish.Do (command.Retract 9)
nothing_to_take_back = refl

hush : pressed key.Hush (at 2 3 2 4) ≡ (wish.Do command.Hush, at 2 3 2 4)
hush = refl

traffic : pressed key.Traffic (at 2 3 2 4)
    ≡ (wish.Nothing, record (at 2 3 2 4) { traffic = true })
traffic = refl

-- the same on a page of help
abbrev on_page : ℕ → Editor → Editor
on_page page e = record e { page = page }

first_page : pressed key.Help (at 2 3 2 4) ≡ (wish.Nothing, on_page 1 (at 2 3 2 4))
first_page = refl

second_page_of_help : pressed key.Help (on_page 1 (at 2 3 2 4))
    ≡ (wish.Nothing, on_page 2 (at 2 3 2 4))
second_page_of_help = refl

last_page : pressed key.Help (on_page 2 (at 2 3 2 4)) ≡ (wish.Nothing, at 2 3 2 4)
last_page = refl

-- a key does what it does, and closes the page
typed_on_a_page : pressed (key.Glyph 68) (on_page 1 (at 4 54 2 3))
    ≡ (wish.Do (command.Write 4 54 68), at 4 54 2 3)
typed_on_a_page = refl

size_on_a_page : pressed (key.Screen 3 10) (on_page 1 (at 4 4 1 1))
    ≡ (wish.Redraw (Some (record { rows = 3; columns = 10 })), on_page 1 (at 4 4 1 1))
size_on_a_page = refl

redraw_on_a_page : pressed key.Redraw (on_page 2 (at 4 4 1 1))
    ≡ (wish.Redraw None, on_page 2 (at 4 4 1 1))
redraw_on_a_page = refl

text_on_a_page : editor_after key.PasteBegin plain (on_page 2 (at 4 4 1 1))
    ≡ record (at 4 4 1 1) { flow = Some new_flow }
text_on_a_page = refl

help_in_a_text : editor_after key.Help plain (record (at 4 4 1 1) { flow = Some new_flow })
    ≡ record (at 4 4 1 1) { flow = Some new_flow }
help_in_a_text = refl

-- The painting: what a terminal is sent so that it shows a new picture. The rows that differ from
-- the last picture are painted, from the first down, and all rows where there was none.
use Rattle.std.specs.Prelude.{ℕ, ◌+◌, ◌*◌, ◌==◌, Bool, true, not, ◌&&◌, if◌then◌else◌, Option, Some, None, List, [], ◌∷◌, ◌++◌, take, drop}
use Rattle.std.specs.Cmp.Lexicographic.{pointwise}
use Rattle.std.specs.List.{flat_map, range_with_len}
use Rattle.orca_term.specs.declared.forms.Form.{Form}
use Rattle.orca_term.specs.declared.forms.Form.TheVariants.{GoTo, Style, Show}
use Rattle.orca_term.specs.Picture.{plain}
use Rattle.orca_term.specs.declared.cell.Cell.{Cell}
use Rattle.orca_term.specs.declared.cell.ScreenSize.{ScreenSize}
use Rattle.orca_term.specs.declared.limits.TheConstants.{ROW_BYTES, CELL_BYTES}

-- row y of the cells of a screen
abbrev pub screen_row : ScreenSize → List Cell → ℕ → List Cell
screen_row d cells y = take d.columns (drop (y * d.columns) cells)

-- whether two cells are equal
abbrev pub is_same_cell : Cell → Cell → Bool
is_same_cell a b = a.byte == b.byte && a.style == b.style

-- whether row y is painted after the last picture, or after none
abbrev pub is_painted : ScreenSize → Option (List Cell) → List Cell → ℕ → Bool
is_painted d None cells y = true
is_painted d (Some last) cells y = not (pointwise is_same_cell (screen_row d last y) (screen_row d cells y))

-- what changes the style that is in force: nothing where it stays, and else no style and then the
-- new one
unfoldable pub style_change : ℕ → ℕ → List Form
style_change old new =
    if old == new then []
    else (if new == plain then Style plain ∷ [] else Style plain ∷ Style new ∷ [])

-- cells, from the left, where a style is in force before them
unfoldable pub painted_cells : ℕ → List Cell → List Form
painted_cells style [] = []
painted_cells style (cell ∷ cells) =
    style_change style cell.style ++ Show cell.byte ∷ painted_cells cell.style cells

-- row y, counted from 0, with these cells
unfoldable pub painted_row : ℕ → List Cell → List Form
painted_row y cells = GoTo (y + 1) 1 ∷ Style plain ∷ painted_cells plain cells

-- row y where it is painted
abbrev pub forms_of_row : ScreenSize → Option (List Cell) → List Cell → ℕ → List Form
forms_of_row d last cells y =
    if is_painted d last cells y then painted_row y (screen_row d cells y) else []

-- the painting of these cells after the last picture, or after none
unfoldable pub painting : ScreenSize → Option (List Cell) → List Cell → List Form
painting d last cells = flat_map (forms_of_row d last cells) (range_with_len 0 d.rows)

-- the most bytes of a painted row, and of a whole painting
abbrev pub row_room : ScreenSize → ℕ
row_room d = ROW_BYTES + CELL_BYTES * d.columns

abbrev pub painting_room : ScreenSize → ℕ
painting_room d = d.rows * row_room d

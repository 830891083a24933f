-- The picture: of each cell of the screen its byte and its style. The last row is the status line,
-- and the others are a window on the grid, or a page of help. Styles are those of ECMA-48, select
-- graphic rendition.
use Rattle.std.specs.Prelude.{ℕ, zero, suc, ◌+◌, ◌-◌, ◌*◌, ◌%◌, ◌≤◌, ◌==◌, Bool, true, false, ◌&&◌, ◌||◌, if◌then◌else◌, List, [], ◌∷◌, ◌++◌, map, codes, max, min, nat_le, nat_lt, slice_index_or}
use Rattle.std.specs.Fmt.{decimal}
use Rattle.std.specs.List.{list_any, range_with_len}
use Rattle.std.specs.Option.{is_some}
use Rattle.orca_base.specs.Ascii.{space}
use Rattle.orca_base.specs.Edits.{is_in_area}
use Rattle.orca_base.specs.Glyphs.{bang, empty, is_operator, is_upper}
use Rattle.orca_base.specs.Grids.{Sheet, is_inside, is_place, index_of, glyph_at}
use Rattle.orca_base.specs.MarkSet.{MarkSet, no_marks}
use Rattle.orca_base.specs.declared.limits.TheConstants.{BEAT_FRAMES, MIN_SCREEN_ROWS, MAX_SCREEN_ROWS, MIN_SCREEN_COLUMNS, MAX_SCREEN_COLUMNS}
use Rattle.orca_base.specs.declared.place.Place.{Place}
use Rattle.orca_term.specs.Came.{came_word, is_warning}
use Rattle.orca_term.specs.Codes.{hash_sign, plus}
use Rattle.orca_term.specs.Editing.{area_of, window_place}
use Rattle.orca_term.specs.Help.{page_line}
use Rattle.orca_term.specs.Traffic.{FrameSent, sent_text}
use Rattle.orca_term.specs.Words.{glyph_words}
use Rattle.orca_term.specs.declared.cell.Cell.{Cell}
use Rattle.orca_term.specs.declared.cell.ScreenSize.{ScreenSize}
use Rattle.orca_term.specs.declared.editor.Editor.{Editor}
use Rattle.orca_term.specs.declared.limits.TheConstants.{MAX_STYLE, RULER_PLACES, TRAFFIC_ROWS}
use Rattle.orca_term.specs.declared.overlay.Overlay.{Overlay}
use Rattle.orca_term.specs.declared.status.StatusLine.{StatusLine}

-- the sizes that a screen may have
pub record IsScreen (d : ScreenSize) : Type 0 where
  pub rows : MIN_SCREEN_ROWS ≤ d.rows
  pub few_rows : d.rows ≤ MAX_SCREEN_ROWS
  pub columns : MIN_SCREEN_COLUMNS ≤ d.columns
  pub few_columns : d.columns ≤ MAX_SCREEN_COLUMNS

-- the largest of them
abbrev pub largest_screen : ScreenSize
largest_screen = record { rows = MAX_SCREEN_ROWS; columns = MAX_SCREEN_COLUMNS }

-- a size brought into those that a screen may have
abbrev pub screen_inside : ScreenSize → ScreenSize
screen_inside d = record {
  rows = max MIN_SCREEN_ROWS (min d.rows MAX_SCREEN_ROWS);
  columns = max MIN_SCREEN_COLUMNS (min d.columns MAX_SCREEN_COLUMNS);
}

-- the number of cells
abbrev pub screen_cells : ScreenSize → ℕ
screen_cells d = d.rows * d.columns

-- what is shown besides the status line: a grid, its marks, the editor, and the places of the
-- cursors of other hands
pub record Scene : Type 0 where
  pub sheet : Sheet
  pub marks : List MarkSet
  pub editor : Editor
  pub others : List Place

abbrev pub scene_of : Sheet → List MarkSet → Overlay → Scene
scene_of sheet marks over = record {
  sheet = sheet;
  marks = marks;
  editor = over.editor;
  others = over.others;
}

-- the styles: none, bold, faint, underlined, with the colours exchanged, three colours, and one
-- behind the letter
abbrev pub plain : ℕ
plain = 0

abbrev pub bold : ℕ
bold = 1

abbrev pub faint : ℕ
faint = 2

abbrev pub underlined : ℕ
underlined = 4

abbrev pub reversed : ℕ
reversed = 7

abbrev pub magenta : ℕ
magenta = 35

abbrev pub on_magenta : ℕ
on_magenta = 45

abbrev pub bright_red : ℕ
bright_red = 91

abbrev pub bright_blue : ℕ
bright_blue = 94

-- a printable byte of ASCII
abbrev pub IsPrintableByte : ℕ → Type 0
IsPrintableByte byte = (space ≤ byte) × (byte ≤ 126)

-- a cell that a terminal can show: a printable byte, and a style of one byte
pub record IsPrintable (cell : Cell) : Type 0 where
  pub byte : IsPrintableByte cell.byte
  pub style : cell.style ≤ MAX_STYLE

-- a space without a style
abbrev pub blank_cell : Cell
blank_cell = record { byte = space; style = plain }

-- the marks of a place in the grid
abbrev pub scene_marks : Scene → Place → MarkSet
scene_marks scene at = slice_index_or scene.marks (index_of scene.sheet.dims at) no_marks

-- the style of a glyph that nothing marks, where the guide shows: of a bang, of a comment, of an
-- operator that works in each frame, and of one that waits for a bang
abbrev pub colour_of : ℕ → ℕ
colour_of glyph =
    if glyph == bang then bright_red
    else (if glyph == hash_sign then faint
    else (if is_upper glyph then bright_blue
    else (if is_operator glyph then magenta else plain)))

-- the style of a place with these marks and this glyph: the first of these that holds. It lies in
-- the selection; it meets the cursor of another hand; it carries Output; it carries Input; it
-- carries Lock or Sleep, or is empty. The guide adds colours
abbrev pub style_by : Bool → Bool → Bool → MarkSet → ℕ → ℕ
style_by guided selected met marks glyph =
    if selected then reversed
    else (if met then on_magenta
    else (if marks.output then (if guided && glyph == bang then bright_red else bold)
    else (if marks.input then underlined
    else (if marks.lock || marks.sleep || glyph == empty then faint
    else (if guided then colour_of glyph else plain)))))

-- whether the cursor of another hand is here
abbrev pub is_met : List Place → Place → Bool
is_met others at = list_any (is_place at) others

abbrev pub style_at : Scene → Place → ℕ
style_at scene at =
    style_by scene.editor.guide (is_in_area (area_of scene.editor) at) (is_met scene.others at)
    (scene_marks scene at) (glyph_at scene.sheet at)

-- the places of the ruler
abbrev pub is_ruled : Place → Bool
is_ruled at = at.y % RULER_PLACES == 0 && at.x % RULER_PLACES == 0

-- what a place shows: its glyph, or the ruler where it is empty and faint
abbrev pub byte_at : Scene → Place → ℕ
byte_at scene at =
    if scene.editor.guide && is_ruled at && glyph_at scene.sheet at == empty
    && style_at scene at == faint
    then plus else glyph_at scene.sheet at

-- the cell of a place; outside the grid it is blank
unfoldable pub grid_cell : Scene → Place → Cell
grid_cell scene at =
    if is_inside scene.sheet.dims at
    then record { byte = byte_at scene at; style = style_at scene at } else blank_cell

-- whether the performance goes on
abbrev pub state_word : Bool → List ℕ
state_word true = codes "pause"
state_word false = codes "play"

-- a text in a style
abbrev pub styled : ℕ → List ℕ → List Cell
styled style text = map (λ byte. record { byte = byte; style = style }) text

-- a warning, where it holds, with a space after it
abbrev pub warned : Bool → List ℕ → List Cell
warned holds text = if holds then styled bright_red text ++ blank_cell ∷ [] else []

-- what is lost, and how many hands are away
abbrev pub warning_cells : StatusLine → List Cell
warning_cells line =
    warned line.no_midi (codes "no midi") ++ warned line.no_udp (codes "no udp")
    ++ warned line.no_osc (codes "no osc") ++ warned line.no_journal (codes "no journal")
    ++ warned (nat_lt 0 line.away) (decimal line.away ++ codes " away")

-- the tempo, and whether the frame that was played last begins a beat
abbrev pub tempo_word : StatusLine → List ℕ
tempo_word line =
    decimal line.tempo ++ codes " "
    ++ (if line.tick % BEAT_FRAMES == 1 then codes "*" else codes ".")

-- the glyph at the cursor; outside the grid there is none
abbrev pub glyph_under : Scene → ℕ
glyph_under scene =
    let at : Place = record { y = scene.editor.y; x = scene.editor.x } in
    if is_inside scene.sheet.dims at then glyph_at scene.sheet at else empty

-- the text of the status line before the warnings: the guide adds the tempo, typing that goes on
-- adds a word, and so does a text that is pasted
unfoldable pub status_front : Editor → StatusLine → List ℕ
status_front e line =
    decimal line.tick ++ codes " " ++ decimal line.moments ++ codes " " ++ decimal line.sounding
    ++ codes " " ++ decimal e.y ++ codes "," ++ decimal e.x
    ++ codes " " ++ decimal e.h ++ codes "x" ++ decimal e.w
    ++ codes " " ++ state_word e.paused
    ++ (if e.guide then codes " " ++ tempo_word line else [])
    ++ (if e.append then codes " append" else [])
    ++ (if is_some e.flow then codes " paste" else []) ++ codes " "

-- the style of the word that tells what the last key came to
abbrev pub word_style : StatusLine → ℕ
word_style line = if line.warns && is_warning line.unsaved line.came then bright_red else plain

-- the cells of the status line, with this glyph at the cursor, which the guide tells in words
unfoldable pub status_cells : Editor → ℕ → StatusLine → List Cell
status_cells e glyph line =
    styled plain (status_front e line) ++ warning_cells line
    ++ styled (word_style line) (came_word line.unsaved line.came)
    ++ styled plain (if e.guide then glyph_words glyph else [])

-- ---- rows

-- a row of cells, cut at the last column, or filled with spaces
abbrev pub cut_row : ℕ → List Cell → List Cell
cut_row columns cells = map (λ x. slice_index_or cells x blank_cell) (range_with_len 0 columns)

-- a row with a text
abbrev pub text_cell : List ℕ → ℕ → Cell
text_cell text x = record { byte = slice_index_or text x space; style = plain }

abbrev pub text_row : ℕ → List ℕ → List Cell
text_row columns text = map (text_cell text) (range_with_len 0 columns)

-- row y of the window
abbrev pub grid_row : ScreenSize → Scene → ℕ → List Cell
grid_row d scene y =
    map (λ x. grid_cell scene (window_place d scene.editor y x)) (range_with_len 0 d.columns)

-- whether the last row of the window tells what was sent
abbrev pub tells_sent : ScreenSize → Editor → Bool
tells_sent d e = e.traffic && nat_le TRAFFIC_ROWS d.rows

-- row y of the piece: of the grid, or what was sent
abbrev pub piece_row : ScreenSize → Scene → FrameSent → ℕ → List Cell
piece_row d scene sent y =
    if tells_sent d scene.editor && y + 2 == d.rows then text_row d.columns (sent_text sent)
    else grid_row d scene y

-- row y of a page of help
abbrev pub page_row : ScreenSize → ℕ → ℕ → List Cell
page_row d page y = text_row d.columns (page_line page y)

-- the first rows, so many of them
abbrev pub rows_of : (ℕ → List Cell) → ℕ → List Cell
rows_of row zero = []
rows_of row (suc y) = rows_of row y ++ row y

-- the rows above the status line: of the piece, or of a page of help
unfoldable pub upper_rows : ScreenSize → Scene → FrameSent → List Cell
upper_rows d scene sent =
    if scene.editor.page == 0 then rows_of (piece_row d scene sent) (d.rows - 1)
    else rows_of (page_row d scene.editor.page) (d.rows - 1)

-- the cells of the screen, in reading order
unfoldable pub picture : ScreenSize → Scene → FrameSent → StatusLine → List Cell
picture d scene sent line =
    upper_rows d scene sent
    ++ cut_row d.columns (status_cells scene.editor (glyph_under scene) line)

-- Grid text: how a byte offends, the grid of a text in which none does, and the text of a grid.
-- A text's rows are its lines: each ends in a line feed, or in a carriage return and a line feed,
-- and the end of the last may be missing.
use Rattle.std.specs.Prelude.{ℕ, ◌+◌, ◌<◌, ◌≡◌, Bool, not, ◌&&◌, ◌||◌, ◌==◌, nat_lt, if◌then◌else◌, Option, Some, None, Result, Ok, Err, List, [], ◌∷◌, ◌++◌, length, map, take, count_by, slice_index, slice_index_or, max, zero, suc}
use Rattle.std.specs.Option.{option_or}
use Rattle.std.specs.List.{after_last, flat_map, range_with_len}
use Rattle.std.specs.Str.Lines.{lines}
use Rattle.orca_base.specs.Ascii.{space, line_feed, carriage_return}
use Rattle.orca_base.specs.Glyphs.{empty, is_glyph}
use Rattle.orca_base.specs.Grids.{Size, Sheet, sheet_by, glyph_at}
use Rattle.orca_base.specs.declared.limits.TheConstants.{MAX_ROWS, MAX_COLUMNS}
use Rattle.orca_base.specs.declared.place.Place.{Place}
use Rattle.orca_grid.specs.declared.refusal.GridRefusal.{GridRefusal}
use Rattle.orca_grid.specs.declared.refusal.GridRefusal.TheVariants.{BadByte, NoCells, TooWide, TooHigh}

-- a cell byte: a glyph, or a space
abbrev pub is_cell : ℕ → Bool
is_cell byte = (byte == space) || is_glyph byte

-- the byte ends a row
abbrev pub is_line_feed : ℕ → Bool
is_line_feed byte = byte == line_feed

-- the row of the byte at place i, from 1: one more than the line feeds before it
unfoldable pub row_at : List ℕ → ℕ → ℕ
row_at text i = count_by is_line_feed (take i text) + 1

-- the bytes of its row that stand before the byte at place i
abbrev pub row_before : List ℕ → ℕ → List ℕ
row_before text i = after_last is_line_feed (take i text)

-- the column of the byte at place i, from 0: the cell bytes of its row before it
unfoldable pub column_at : List ℕ → ℕ → ℕ
column_at text i = count_by is_cell (row_before text i)

-- a carriage return that a line feed follows
abbrev pub begins_end : List ℕ → ℕ → Bool
begins_end text i =
    (slice_index text i == carriage_return) && (slice_index text (i + 1) == line_feed)

-- the byte is no cell byte and no part of the end of a row
abbrev pub is_bad : List ℕ → ℕ → Bool
is_bad text i =
    not (is_cell (slice_index text i) || is_line_feed (slice_index text i) || begins_end text i)

-- how the byte at place i offends: its row is one too many, it is bad, or it is one cell too many
-- for its row
unfoldable pub offence : List ℕ → ℕ → Option GridRefusal
offence text i =
    if nat_lt MAX_ROWS (row_at text i) then Some TooHigh
    else (if is_bad text i then Some (BadByte i)
    else (if is_cell (slice_index text i) && (column_at text i == MAX_COLUMNS)
    then Some (TooWide (row_at text i)) else None))

-- no byte of the text offends
abbrev pub IsClean : List ℕ → Type 0
IsClean text = (k : ℕ) → k < length text → offence text k ≡ None

-- how the first offending byte among the first n offends
unfoldable pub first_offence : List ℕ → ℕ → Option GridRefusal
first_offence text zero = None
first_offence text (suc n) = option_or (first_offence text n) (offence text n)

-- a space is read as `.`
abbrev pub glyph_of : ℕ → ℕ
glyph_of byte = if byte == space then empty else byte

-- the length of the longest row
unfoldable pub widest : List (List ℕ) → ℕ
widest [] = 0
widest (row ∷ rows) = max (length row) (widest rows)

-- the size of the grid of some rows
abbrev pub size_of_rows : List (List ℕ) → Size
size_of_rows rows = record { h = length rows; w = widest rows }

-- the glyph that some rows give to a place: each row is filled with `.` at the right
unfoldable pub glyph_of_rows : List (List ℕ) → Place → ℕ
glyph_of_rows rows at = slice_index_or (map glyph_of (slice_index_or rows at.y [])) at.x empty

-- the grid of some rows
abbrev pub sheet_of_rows : List (List ℕ) → Sheet
sheet_of_rows rows = sheet_by (size_of_rows rows) (glyph_of_rows rows)

-- what rows in which no byte offends are read as: without a cell they are no grid
abbrev pub grid_of_rows : List (List ℕ) → Result Sheet GridRefusal
grid_of_rows rows =
    if (length rows == 0) || (widest rows == 0) then Err NoCells else Ok (sheet_of_rows rows)

-- the first offence decides
abbrev pub unless_refused : Option GridRefusal → List (List ℕ) → Result Sheet GridRefusal
unless_refused (Some refusal) rows = Err refusal
unless_refused None rows = grid_of_rows rows

-- what a text is read as: the first offending byte decides, and where none offends, the grid is
-- that of its lines
unfoldable pub grid_text : List ℕ → Result Sheet GridRefusal
grid_text text = unless_refused (first_offence text (length text)) (lines text)

-- row y of a grid
abbrev pub row_of : Sheet → ℕ → List ℕ
row_of g y = map (λ x. glyph_at g (record { y = y; x = x })) (range_with_len 0 g.dims.w)

-- the rows of a grid
abbrev pub rows_of : Sheet → List (List ℕ)
rows_of g = map (row_of g) (range_with_len 0 g.dims.h)

-- a row and its line feed
abbrev pub line : List ℕ → List ℕ
line row = row ++ line_feed ∷ []

-- the text of a grid: each row, with a line feed
unfoldable pub text_of : Sheet → List ℕ
text_of g = flat_map line (rows_of g)

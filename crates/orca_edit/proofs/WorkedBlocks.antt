-- Blocks that are filled, put, moved, copied and cut to another size, computed by the definitions.
use Rattle.std.specs.Prelude.{ℕ, ◌≡◌, [], ◌∷◌, Some, codes, refl}
use Rattle.orca_base.specs.declared.area.Area.{Area}
use Rattle.orca_base.specs.declared.place.Place.{Place}
use Rattle.orca_base.specs.Edits.{block_of, block_with, clipped, sheet_after_fill, sheet_after_move, sheet_after_put, sheet_after_resize}
use Rattle.orca_base.specs.Grids.{Sheet, by_place}
use Rattle.orca_edit.proofs.GridRows.{grid}

abbrev place : ℕ → ℕ → Place
place y x = record { y = y; x = x }

abbrev area : ℕ → ℕ → ℕ → ℕ → Area
area y x h w = record { y = y; x = x; h = h; w = w }

-- two rows of three letters
abbrev letters : Sheet
letters = grid (codes "abc" ∷ codes "def" ∷ [])

-- ---- copies

copy_of_a_row : block_of letters (area 1 0 1 3) ≡ grid (codes "def" ∷ [])
unfolding by_place
copy_of_a_row = refl

copy_of_a_column : block_of letters (area 0 2 2 1) ≡ grid (codes "c" ∷ codes "f" ∷ [])
unfolding by_place
copy_of_a_column = refl

copy_of_a_corner : block_of letters (area 0 1 2 2) ≡ grid (codes "bc" ∷ codes "ef" ∷ [])
unfolding by_place
copy_of_a_corner = refl

copy_of_the_whole_grid : block_of letters (area 0 0 2 3) ≡ letters
unfolding by_place
copy_of_the_whole_grid = refl

-- ---- a glyph in a cell of a block

glyph_inside : block_with letters (place 1 1) 35 ≡ grid (codes "abc" ∷ codes "d#f" ∷ [])
unfolding by_place
glyph_inside = refl

glyph_below : block_with letters (place 3 1) 35
    ≡ grid (codes "abc" ∷ codes "def" ∷ codes "..." ∷ codes ".#." ∷ [])
unfolding by_place
glyph_below = refl

glyph_beside : block_with letters (place 0 4) 35 ≡ grid (codes "abc.#" ∷ codes "def.." ∷ [])
unfolding by_place
glyph_beside = refl

glyph_beyond_a_corner : block_with letters (place 2 3) 35
    ≡ grid (codes "abc." ∷ codes "def." ∷ codes "...#" ∷ [])
unfolding by_place
glyph_beyond_a_corner = refl

first_cell_begins_anew : clipped (Some letters) (place 0 0) 35 ≡ Some (grid (codes "#" ∷ []))
first_cell_begins_anew = refl

-- ---- fills

fill_of_a_column : sheet_after_fill letters (area 0 1 2 1) 35
    ≡ grid (codes "a#c" ∷ codes "d#f" ∷ [])
unfolding by_place
fill_of_a_column = refl

fill_of_the_last_place : sheet_after_fill letters (area 1 2 1 1) 35
    ≡ grid (codes "abc" ∷ codes "de#" ∷ [])
unfolding by_place
fill_of_the_last_place = refl

-- ---- puts

put_of_a_block_that_is_larger_than_the_grid :
    sheet_after_put letters (place 0 0)
    (grid (codes "1234" ∷ codes "5678" ∷ codes "9xyz" ∷ []))
    ≡ grid (codes "123" ∷ codes "567" ∷ [])
unfolding by_place
put_of_a_block_that_is_larger_than_the_grid = refl

put_inside : sheet_after_put letters (place 0 1) (grid (codes "1" ∷ codes "2" ∷ []))
    ≡ grid (codes "a1c" ∷ codes "d2f" ∷ [])
unfolding by_place
put_inside = refl

-- ---- moves

move_apart : sheet_after_move letters (area 0 0 2 1) (place 0 2)
    ≡ grid (codes ".ba" ∷ codes ".ed" ∷ [])
unfolding by_place
move_apart = refl

move_of_the_whole_grid : sheet_after_move letters (area 0 0 2 3) (place 1 1)
    ≡ grid (codes "..." ∷ codes ".ab" ∷ [])
unfolding by_place
move_of_the_whole_grid = refl

-- ---- sizes

more_rows_and_columns : sheet_after_resize letters (record { h = 3; w = 4 })
    ≡ grid (codes "abc." ∷ codes "def." ∷ codes "...." ∷ [])
unfolding by_place
more_rows_and_columns = refl

fewer_rows_and_more_columns : sheet_after_resize letters (record { h = 1; w = 5 })
    ≡ grid (codes "abc.." ∷ [])
unfolding by_place
fewer_rows_and_more_columns = refl

more_rows_and_fewer_columns : sheet_after_resize letters (record { h = 3; w = 1 })
    ≡ grid (codes "a" ∷ codes "d" ∷ codes "." ∷ [])
unfolding by_place
more_rows_and_fewer_columns = refl

the_same_size : sheet_after_resize letters (record { h = 2; w = 3 }) ≡ letters
unfolding by_place
the_same_size = refl

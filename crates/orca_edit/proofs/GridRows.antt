-- Grids by their rows, for worked examples.
use Rattle.std.specs.Prelude.{ℕ, List, [], ◌∷◌, ◌++◌, length}
use Rattle.orca_base.specs.Grids.{Sheet}

abbrev pub cells_of_rows : List (List ℕ) → List ℕ
cells_of_rows [] = []
cells_of_rows (row ∷ rows) = row ++ cells_of_rows rows

abbrev pub width_of_rows : List (List ℕ) → ℕ
width_of_rows [] = 0
width_of_rows (row ∷ rows) = length row

-- the grid of these rows, each as wide as the first
abbrev pub grid : List (List ℕ) → Sheet
grid rows = record {
  dims = record { h = length rows; w = width_of_rows rows };
  cells = cells_of_rows rows;
}

-- The empty grid.
use Rattle.std.specs.Prelude.{replicate}
use Rattle.orca_base.specs.Glyphs.{empty}
use Rattle.orca_base.specs.Grids.{Size, Sheet, cells_of}

-- the grid of a size, each cell of it empty
abbrev pub blank_sheet : Size → Sheet
blank_sheet d = record { dims = d; cells = replicate (cells_of d) empty }

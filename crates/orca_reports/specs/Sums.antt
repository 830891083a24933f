-- The sum of a grid's glyphs, as `make` prints it.
use Rattle.std.specs.Prelude.{ℕ, ◌+◌, ◌*◌, ◌%◌, ◌^◌}
use Rattle.std.specs.List.{fold}
use Rattle.orca_base.specs.Grids.{Sheet}

-- the sum with a glyph more: 31 times as much and the glyph, modulo 2^32
abbrev pub sum_after : ℕ → ℕ → ℕ
sum_after sum glyph = (sum * 31 + glyph) % 2 ^ 32

-- the sum of a grid: from 0 over all glyphs, in reading order
unfoldable pub sum_of : Sheet → ℕ
sum_of g = fold sum_after 0 g.cells

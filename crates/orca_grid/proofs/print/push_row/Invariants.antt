use Rattle.std.proofs.Common.{◌≡◌, ◌++◌, ℕ, map}
use Rattle.std.specs.List.{range_with_len}
use Rattle.orca_base.specs.Grids.{glyph_at}
use Rattle.orca_grid.proofs.print.push_row.Given as goal

abbrev pub invariant-loop-x : goal.invariant-loop-x
invariant-loop-x g l =
    let glyph = λ (x : ℕ). glyph_at (g.T.Look.sheet l.look) (record { y = l.y; x = x }) in
    l.into.items ≡ l.fn.into.items ++ map glyph (range_with_len 0 l.x)

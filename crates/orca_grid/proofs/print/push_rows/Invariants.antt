use Rattle.std.proofs.Common.{◌≡◌, ◌++◌, map}
use Rattle.std.specs.List.{flat_map, range_with_len}
use Rattle.orca_grid.specs.GridText.{line, row_of}
use Rattle.orca_grid.proofs.print.push_rows.Given as goal

abbrev pub invariant-loop-y : goal.invariant-loop-y
invariant-loop-y g l =
    let rows = map (row_of (g.T.Look.sheet l.look)) (range_with_len 0 l.y) in
    l.into.items ≡ l.fn.into.items ++ flat_map line rows

use Rattle.std.proofs.Common.{◌≡◌, ◌+◌, ◌-◌, ◌++◌, map}
use Rattle.std.specs.List.{All, range_with_len}
use Rattle.std.specs.Vec.{vec_len, vec_capacity}
use Rattle.orca_term.specs.Picture.{IsPrintable, scene_of, grid_cell}
use Rattle.orca_term.proofs.picture.push_cells.Given as goal

abbrev pub invariant-loop-x : goal.invariant-loop-x
invariant-loop-x g l = record {
  cells : l.cells.items ≡ l.fn.cells.items ++ map
      (λ x. grid_cell (scene_of (g.T.Look.sheet l.look) (g.T.Look.marks l.look) l.over)
      (record { y = l.at.y; x = l.at.x + x }))
      (range_with_len 0 (l.x - l.at.x));
  len : vec_len l.cells ≡ vec_len l.fn.cells + (l.x - l.at.x);
  printable : All IsPrintable l.cells.items;
  room : vec_capacity l.cells ≡ vec_capacity l.fn.cells;
}

use Rattle.std.proofs.Common.{◌≡◌, ◌*◌}
use Rattle.std.specs.List.{All}
use Rattle.std.specs.Vec.{vec_len, vec_capacity}
use Rattle.orca_term.specs.Picture.{IsPrintable, grid_row, rows_of, scene_of}
use Rattle.orca_term.proofs.picture.draw_grid.Given as goal

abbrev pub invariant-loop-y : goal.invariant-loop-y
invariant-loop-y g l = record {
  cells : l.cells.items ≡ rows_of (grid_row l.fn.size
      (scene_of (g.T.Look.sheet l.look) (g.T.Look.marks l.look) l.over)) l.y;
  len : vec_len l.cells ≡ l.y * l.columns;
  printable : All IsPrintable l.cells.items;
  room : vec_capacity l.cells ≡ vec_capacity l.fn.cells;
}

use Rattle.std.proofs.Common.{◌≡◌, ◌*◌}
use Rattle.std.specs.List.{All}
use Rattle.std.specs.Vec.{vec_len, vec_capacity}
use Rattle.orca_term.specs.Picture.{IsPrintable, page_row, rows_of}
use Rattle.orca_term.proofs.picture.draw_page.Given as goal

abbrev pub invariant-loop-y : goal.invariant-loop-y
invariant-loop-y l = record {
  cells : l.cells.items ≡ rows_of (page_row l.size l.page) l.y;
  len : vec_len l.cells ≡ l.y * l.size.columns;
  printable : All IsPrintable l.cells.items;
  room : vec_capacity l.cells ≡ vec_capacity l.fn.cells;
}

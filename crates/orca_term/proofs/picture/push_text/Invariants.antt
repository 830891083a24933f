use Rattle.std.proofs.Common.{◌≡◌, ◌+◌, ◌++◌, map}
use Rattle.std.specs.List.{All, range_with_len}
use Rattle.std.specs.Vec.{vec_len, vec_capacity}
use Rattle.orca_term.specs.Picture.{IsPrintable, text_cell}
use Rattle.orca_term.proofs.picture.push_text.Given as goal

abbrev pub invariant-loop-x : goal.invariant-loop-x
invariant-loop-x l = record {
  cells : l.cells.items
      ≡ l.fn.cells.items ++ map (text_cell l.text) (range_with_len 0 l.x);
  len : vec_len l.cells ≡ vec_len l.fn.cells + l.x;
  printable : All IsPrintable l.cells.items;
  room : vec_capacity l.cells ≡ vec_capacity l.fn.cells;
}

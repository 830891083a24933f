use Rattle.std.proofs.Common.{◌≡◌, ◌*◌, ◌≤◌}
use Rattle.std.specs.List.{flat_map, range_with_len}
use Rattle.std.specs.Option.{option_copied}
use Rattle.std.specs.Vec.{vec_len, vec_capacity}
use Rattle.orca_term.specs.Forms.{bytes_of}
use Rattle.orca_term.specs.Painting.{forms_of_row, row_room}
use Rattle.orca_term.proofs.painting.paint_rows.Given as goal

abbrev pub invariant-loop-y : goal.invariant-loop-y
invariant-loop-y l = record {
  bytes : l.bytes.items ≡ bytes_of
      (flat_map (forms_of_row l.size (option_copied l.last) l.cells) (range_with_len 0 l.y));
  short : vec_len l.bytes ≤ l.y * row_room l.size;
  room : vec_capacity l.bytes ≡ vec_capacity l.fn.bytes;
}

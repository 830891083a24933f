use Rattle.std.proofs.Common.{◌≡◌, vec_len, replicate}
use Rattle.std.specs.Prelude.{vec_capacity}
use Rattle.orca_base.specs.MarkSet.{no_marks}
use Rattle.orca_board.proofs.plain_board.unmark.Given as goal

-- an empty set for each place so far
abbrev pub invariant-loop : goal.invariant-loop
invariant-loop l = record {
  items : l.list.items ≡ replicate l.counter no_marks;
  len : vec_len l.list ≡ l.counter;
  capacity : vec_capacity l.list ≡ vec_capacity l.fn.list;
}

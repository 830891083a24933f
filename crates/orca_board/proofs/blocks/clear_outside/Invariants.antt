use Rattle.std.proofs.Common.{◌≡◌, ◌+◌, not, length}
use Rattle.std.specs.Prelude.{filter}
use Rattle.orca_base.specs.Edits.{is_in_area}
use Rattle.orca_base.specs.Glyphs.{empty}
use Rattle.orca_op.specs.Slate.{slate_after_all}
use Rattle.orca_board.specs.Blocks.{write_each}
use Rattle.orca_board.proofs.RunLemmas.{first_rows}
use Rattle.orca_board.proofs.blocks.clear_outside.Given as goal

-- those of the first rows that lie outside the other area are empty
abbrev pub invariant-loop-row : goal.invariant-loop-row
invariant-loop-row g l = record {
  slate : g.B.Bench.slate l.bench ≡ slate_after_all (g.B.Bench.slate l.initial.bench)
      (write_each (λ at. empty)
      (filter (λ at. not (is_in_area l.other at)) (first_rows l.area l.row)));
  steps : l.steps ≡ l.initial.steps + length
      (filter (λ at. not (is_in_area l.other at)) (first_rows l.area l.row));
}

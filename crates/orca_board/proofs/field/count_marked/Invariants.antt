use Rattle.std.proofs.Common.{◌≡◌, ◌+◌, take}
use Rattle.std.specs.Prelude.{count_by}
use Rattle.orca_base.specs.Grids.{by_place}
use Rattle.orca_base.specs.MarkSet.{is_marked}
use Rattle.orca_board.specs.Board.{cell_marks}
use Rattle.orca_board.proofs.field.count_marked.Given as goal

-- a step for each marked place before `n`
abbrev pub invariant-loop-n : goal.invariant-loop-n
invariant-loop-n g l =
    l.steps ≡ l.initial.steps + count_by is_marked (take l.n (by_place l.dims (cell_marks l.marks)))

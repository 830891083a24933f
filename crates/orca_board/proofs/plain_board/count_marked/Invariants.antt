use Rattle.std.proofs.Common.{◌≡◌, ◌+◌, take}
use Rattle.std.specs.Prelude.{count_by}
use Rattle.orca_base.specs.MarkSet.{is_marked}
use Rattle.orca_board.proofs.plain_board.count_marked.Given as goal

-- a step for each marked place so far
abbrev pub invariant-loop-place : goal.invariant-loop-place
invariant-loop-place g l =
    l.steps ≡ l.initial.steps + count_by is_marked (take l.place-index l.marks)

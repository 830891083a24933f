use Rattle.std.proofs.Common.{ap, ◌∙◌}
use Rattle.orca_base.specs.Grids.{Sheet}
use Rattle.orca_op.specs.Slate.{slate_of_sheet}
use Rattle.grid_tests.proofs.frames.frame_of_dots_takes_a_step_for_each_row.Goals as goal

pub count_dots-requires-clause-dots : goal.count_dots-requires-clause-dots
count_dots-requires-clause-dots g c =
    c.in_ok-board.ensures ∙ ap (λ (s : Sheet). slate_of_sheet s) c.in_ok-grid.ensures

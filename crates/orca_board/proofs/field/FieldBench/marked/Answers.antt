use Rattle.std.proofs.Common.{sym, ◌∙◌}
use Rattle.orca_base.specs.MarkSet.{no_marks}
use Rattle.orca_base.proofs.SheetFacts.{index-by_place}
use Rattle.orca_board.specs.Board.{cell_marks}
use Rattle.orca_board.proofs.field.FieldBench.marked.Goals as goal

pub returns-in-Some-clause-marks : goal.returns-in-Some-clause-marks
unfolding Rattle.orca_op.specs.State.marked
returns-in-Some-clause-marks g c =
    rw (← c.self.view_is, ← c.in-Some.ensures.place)
    (c.at.ensures ∙ sym (index-by_place c.self.inside.dims (cell_marks c.self.inside.marks)
    c.in-Some.place no_marks c.in-Some.ensures.inside))

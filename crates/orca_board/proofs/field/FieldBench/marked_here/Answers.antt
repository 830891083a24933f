use Rattle.std.proofs.Common.{sym, ◌∙◌}
use Rattle.orca_base.specs.MarkSet.{no_marks}
use Rattle.orca_base.proofs.SheetFacts.{index-by_place}
use Rattle.orca_board.specs.Board.{cell_marks}
use Rattle.orca_board.proofs.field.FieldBench.marked_here.Goals as goal

pub returns-clause-marks : goal.returns-clause-marks
returns-clause-marks g c =
    rw (← c.self.view_is)
    (c.at.ensures ∙ sym (index-by_place c.self.inside.dims (cell_marks c.self.inside.marks) c.args.at
    no_marks (rw (← c.self.view_is) at c.requires)))

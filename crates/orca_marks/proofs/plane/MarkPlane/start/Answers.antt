use Rattle.std.proofs.Common.{refl}
use Rattle.orca_marks.proofs.PlaneLemmas.{filled_blank}
use Rattle.orca_marks.proofs.plane.MarkPlane.start.Goals as goal

pub returns : goal.returns
returns c =
    filled_blank _ _ _ _ _ refl c.new-marks.ensures.items c.new-marks.ensures.len c.none.ensures
    c.in_ok-resize.ensures.items

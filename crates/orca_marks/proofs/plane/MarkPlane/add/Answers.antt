use Rattle.std.proofs.Common.{ap, ◌∙◌}
use Rattle.orca_base.specs.Grids.{Size, index_of}
use Rattle.orca_marks.proofs.PlaneLemmas.{plane_set}
use Rattle.orca_marks.proofs.plane.MarkPlane.add.Goals as goal

pub invariant_of-self : goal.invariant_of-self
invariant_of-self c =
    rw c.from.ensures (plane_set _ _ _ c.args.at.y c.args.at.x _ _ c.self.invariant c.requires.row
    c.requires.column
    (c.index-index.ensures.index ∙ ap (λ (d : Size). index_of d c.args.at) c.largest.ensures))

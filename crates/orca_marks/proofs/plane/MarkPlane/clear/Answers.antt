use Rattle.std.proofs.Common.{sym, ◌∙◌}
use Rattle.orca_marks.proofs.PlaneLemmas.{plane_all, plane_same}
use Rattle.orca_marks.proofs.plane.MarkPlane.clear.Goals as goal
use Rattle.orca_marks.proofs.plane.MarkPlane.clear.Goals.{then-ne, else-ne}

pub clear_rows-requires : goal.clear_rows-requires
clear_rows-requires c = elim c.if-ne.branch [
  | then-ne w ↦
      rw (c.deref_mut.ensures.value, w.self-inside-is)
      (plane_all c.self.inside.marks.items c.args.dims c.self.invariant.size)
  | else-ne w ↦
      rw (c.deref_mut.ensures.value, w.self-inside-is)
      (plane_same c.self.inside.marks.items c.self.inside.cleared c.args.dims c.self.inside.marked
      (sym c.ne.ensures ∙ w.if-ne.false) c.self.invariant)
]

use Rattle.std.proofs.Common.{arith, ap, length}
use Rattle.orca_base.specs.Inline.{length-inline}
use Rattle.orca_base.proofs.InlineLemmas.{push_inline}
use Rattle.orca_base.proofs.inline.Inline.push.Goals as goal

-- the byte is put where the list ends, so one byte more is the list
pub invariant_of-self : goal.invariant_of-self
invariant_of-self g c =
    push_inline _ _ _ _ c.self.invariant
    (omega (arith, length-inline _ _ _ c.self.invariant, ap length c.self.view_is, c.requires))

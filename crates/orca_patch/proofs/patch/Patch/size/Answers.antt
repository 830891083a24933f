use Rattle.std.proofs.Common.{arith}
use Rattle.orca_patch.proofs.Counting.{few-changes, length-changes}
use Rattle.orca_patch.proofs.patch.Patch.size.Goals as goal

pub overflow_cast-result : goal.overflow_cast-result
overflow_cast-result c =
    omega (arith, few-changes _ c.self.invariant, c.len.ensures.value)

pub returns-clause-few : goal.returns-clause-few
returns-clause-few c =
    rw (← c.self.view_is)
    (omega (arith, length-changes _ c.self.invariant, c.len.ensures.value))

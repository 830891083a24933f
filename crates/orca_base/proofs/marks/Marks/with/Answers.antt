use Rattle.std.proofs.lemmas.Nat.{or_lt}
use Rattle.orca_base.proofs.marks.Marks.with.Goals as goal

pub invariant_of-result : goal.invariant_of-result
invariant_of-result c = or_lt 5 c.self.inside.bits c.bit_of.result c.self.invariant
    c.bit_of.ensures.range

use Rattle.std.proofs.Common.{arith, sym, ◌∙◌}
use Rattle.orca_history.proofs.Worn.{IsRing-newest, touched-newest}
use Rattle.orca_history.proofs.ring.Ring.drop_newest.Goals as goal

pub overflow_sub-self : goal.overflow_sub-self
overflow_sub-self c =
    omega (
      arith,
      touched-newest c.self.inside.kept.items c.unwrap-newest.result
          (sym c.pop_back.ensures.value ∙ c.unwrap-newest.ensures),
      c.from.ensures,
      c.self.invariant.sum,
    )

pub invariant_of-self : goal.invariant_of-self
invariant_of-self c =
    rw (c.pop_back.ensures.items, c.from.ensures)
    (IsRing-newest c.self.inside c.unwrap-newest.result c.self.invariant
    (sym c.pop_back.ensures.value ∙ c.unwrap-newest.ensures))

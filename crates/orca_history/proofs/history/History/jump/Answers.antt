use Rattle.std.proofs.Common.{length, ap, arith}
use Rattle.orca_history.specs.History.{trail_of}
use Rattle.orca_history.specs.Trails.{Trail}
use Rattle.orca_history.proofs.Keeping.{IsTrail-jumped}
use Rattle.orca_history.proofs.history.History.jump.Goals as goal

pub invariant_of-self : goal.invariant_of-self
invariant_of-self c =
    rw (
      c.jump.ensures.entries,
      c.jump.ensures.tail,
      c.min-self-inside.ensures,
      c.jump-2.ensures.kept,
      c.saturating_sub.ensures,
    )
    (IsTrail-jumped (trail_of c.self.inside) c.args.moment c.args.patch c.self.invariant
    (omega (arith, c.requires.within, ap (λ (t : Trail). length t.entries) c.self.view_is))
    c.requires.no_change)

pub returns-clause-trail : goal.returns-clause-trail
returns-clause-trail c = invariant_of-self c

use Rattle.std.proofs.Common.{arith}
use Rattle.orca_edit.proofs.FoldLemmas.{tick-piece_after}
use Rattle.orca_session.proofs.session.SessionMachine.tick.Goals as goal

-- each entry raises the tick by one at most
pub returns-clause-most : goal.returns-clause-most
returns-clause-most c =
    rw (← c.self.view_is)
    (omega (
      arith,
      c.self.invariant.next,
      tick-piece_after c.self.inside.past.opened c.self.inside.past.seed
          c.self.inside.past.trail.entries c.self.inside.past.closed,
    ))

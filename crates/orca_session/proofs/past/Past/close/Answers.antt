use Rattle.orca_session.specs.Views.{past_of}
use Rattle.orca_session.proofs.PastLemmas.{IsPast-closed, present-closed}
use Rattle.orca_session.proofs.past.Past.close.Goals as goal

pub invariant_of-self : goal.invariant_of-self
invariant_of-self c =
    rw c.len-self-inside.ensures.len (IsPast-closed (past_of c.self.inside) c.self.invariant)

pub returns-clause-present : goal.returns-clause-present
returns-clause-present c =
    rw (← c.self.view_is, c.len-self-inside.ensures.len) (present-closed (past_of c.self.inside))

use Rattle.std.proofs.Common.{refl}
use Rattle.orca_session.proofs.SessionLemmas.{keeps-start}
use Rattle.orca_session.proofs.session.Session.start.Goals as goal

pub invariant_of-result : goal.invariant_of-result
invariant_of-result c =
    keeps-start _ _ _ c.args.grid.now c.args.seed c.args.limit c.in_ok-start.ensures
    c.in_ok-start-2.ensures c.in_ok-start-3.ensures

pub returns : goal.returns
returns c =
    rw (
      c.in_ok-start.ensures,
      c.in_ok-start-2.ensures,
      c.listing_law.ensures.begin c.args.grid.now,
    )
    refl

use Rattle.orca_session.proofs.PastLemmas.{IsPast-start}
use Rattle.orca_session.proofs.past.Past.start.Goals as goal

pub invariant_of-result : goal.invariant_of-result
invariant_of-result c =
    rw (c.of.ensures, c.in_ok-start.ensures, c.in_ok-start-2.ensures)
    (IsPast-start c.checkpoint_law.ensures.start c.args.grid.now c.args.seed c.args.limit
    c.requires.some c.requires.most)

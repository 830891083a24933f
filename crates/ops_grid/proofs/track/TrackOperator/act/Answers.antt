use Rattle.std.proofs.Common.{rules}
use Rattle.orca_op.proofs.LawFacts.{slate_after_all-append}
use Rattle.ops_grid.proofs.track.TrackOperator.act.Goals as goal

pub returns-clause-deeds : goal.returns-clause-deeds
returns-clause-deeds g c = rw slate_after_all-append (search rules)

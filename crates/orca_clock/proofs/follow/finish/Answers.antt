use Rattle.orca_clock.proofs.PartLemmas.{followed_did}
use Rattle.orca_clock.proofs.follow.finish.Goals as goal

pub returns : goal.returns
returns g c = followed_did g.R.Report.manner _ _ _ _ _ c.end.ensures

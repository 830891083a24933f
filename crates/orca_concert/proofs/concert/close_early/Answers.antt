use Rattle.std.proofs.Common.{rules}
use Rattle.orca_concert.proofs.CommandLemmas.{ends_followed}
use Rattle.orca_concert.proofs.concert.close_early.Goals as goal

pub returns : goal.returns
returns g c = record {
  called = search rules;
  in_send = search rules;
  device = ends_followed _ c.close.ensures.closes;
}

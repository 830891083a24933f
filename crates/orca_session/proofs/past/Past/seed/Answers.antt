use Rattle.std.proofs.Common.{sym}
use Rattle.orca_session.specs.Views.{past_of}
use Rattle.orca_session.proofs.PastLemmas.{seed-present}
use Rattle.orca_session.proofs.past.Past.seed.Goals as goal

pub returns : goal.returns
returns c = rw (← c.self.view_is) (sym (seed-present (past_of c.self.inside)))

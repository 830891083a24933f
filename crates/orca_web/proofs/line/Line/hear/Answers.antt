use Rattle.std.proofs.Common.{[]}
use Rattle.orca_web.proofs.HearingLemmas.{hears_same}
use Rattle.orca_web.proofs.line.Line.hear.Goals as goal

pub returns-in-Err-clause-heard : goal.returns-in-Err-clause-heard
returns-in-Err-clause-heard g c =
    ([], hears_same c.args.self.now.incoming c.flush.new.self.incoming c.flush.ensures.incoming)

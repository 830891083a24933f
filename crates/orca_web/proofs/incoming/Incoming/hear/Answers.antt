use Rattle.std.proofs.Common.{take}
use Rattle.orca_web.proofs.HearingLemmas.{given_after}
use Rattle.orca_web.proofs.incoming.Incoming.hear.Goals as goal

pub returns-in-Ok-true-clause-heard : goal.returns-in-Ok-true-clause-heard
returns-in-Ok-true-clause-heard g c =
    given_after _ _ c.args.self.now c.await_keys.new.self _ (take c.give.result c.give.new.bytes)
    c.await_keys.ensures.heard c.give.ensures.given

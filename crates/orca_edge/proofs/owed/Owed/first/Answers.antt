use Rattle.std.proofs.Common.{arith, refl}
use Rattle.orca_edge.proofs.OwedLemmas.{first_is}
use Rattle.orca_edge.proofs.owed.Owed.first.Goals as goal

pub returns-then-keys-ne0-clause-first : goal.returns-then-keys-ne0-clause-first
returns-then-keys-ne0-clause-first c =
    first_is _ c.loop-channel.channel _ refl c.if-keys-ne0.true (omega arith)
    (omega arith) c.loop-channel.invariant

use Rattle.std.proofs.Common.{arith}
use Rattle.orca_edge.proofs.OwedLemmas.{paid}
use Rattle.orca_edge.proofs.owed.Owed.pay.Goals as goal

pub returns : goal.returns
returns c other is =
    rw c.from.ensures (paid c.args.self.now.ends c.args.voice other (omega arith) c.requires is)

use Rattle.std.proofs.Common.{rules, refl, replicate}
use Rattle.orca_web.proofs.FillLemmas.{fill_written}
use Rattle.orca_web.proofs.outgoing.write_fill.Goals as goal

pub returns-clause-bytes : goal.returns-clause-bytes
returns-clause-bytes g c =
    fill_written c.write_some.result _ _ (replicate 512 24) c.min.result refl (search rules)
    c.write_some.ensures.bound c.write_some.ensures.bytes

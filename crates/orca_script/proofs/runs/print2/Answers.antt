use Rattle.std.proofs.Common.{arith}
use Rattle.orca_script.proofs.RunsReadBack.{script_reads_back}
use Rattle.orca_script.proofs.runs.print2.Goals as goal

pub returns-in-Ok-clause-reads_back : goal.returns-in-Ok-clause-reads_back
returns-in-Ok-clause-reads_back c =
    script_reads_back c.args.seed c.args.commands.now (omega (arith, c.ranges.seed.fits))
    c.in-Ok.ensures.values

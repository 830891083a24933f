use Rattle.orca_script.proofs.ReadsBack.{reads_back, one_line}
use Rattle.orca_script.proofs.printing.print.Goals as goal

pub returns-in-Ok-clause-reads_back : goal.returns-in-Ok-clause-reads_back
returns-in-Ok-clause-reads_back c = reads_back c.args.command.now c.in-Ok.ensures.values

pub returns-in-Ok-clause-one_line : goal.returns-in-Ok-clause-one_line
returns-in-Ok-clause-one_line c rest = one_line c.args.command.now rest c.in-Ok.ensures.values

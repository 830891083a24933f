use Rattle.std.proofs.Common.{arith, subst}
use Rattle.std.specs.Prelude.{All}
use Rattle.std.proofs.lemmas.List.{take_all}
use Rattle.std.proofs.lemmas.List.Elements.{All-more}
use Rattle.orca_script.specs.Canonical.{line_of, HasValues}
use Rattle.orca_script.proofs.RunsReadBack.{script_reads_back}
use Rattle.orca_player.proofs.reading.reading_law.Goals as goal

pub loop-command-preserved : goal.loop-command-preserved
loop-command-preserved c =
    All-more (λ command. HasValues (line_of command)) c.args.commands.now
    c.loop-command.command-index c.command-item.result c.loop-command-test.true
    c.loop-command.invariant
    (subst (λ command. HasValues (line_of command)) c.command-item.is c.command_values.ensures)

pub returns : goal.returns
returns c =
    script_reads_back c.args.seed c.args.commands.now (omega (arith, c.ranges.seed.fits))
    (subst (All (λ command. HasValues (line_of command)))
    (take_all c.loop-command.command-index c.args.commands.now c.loop-command-test.false)
    c.loop-command.invariant)

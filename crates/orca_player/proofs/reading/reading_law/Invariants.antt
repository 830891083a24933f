use Rattle.std.proofs.Common.{take}
use Rattle.std.specs.List.{All}
use Rattle.orca_script.specs.Canonical.{line_of, HasValues}
use Rattle.orca_player.proofs.reading.reading_law.Given as goal

-- the commands so far have values
abbrev pub invariant-loop-command : goal.invariant-loop-command
invariant-loop-command l = All (λ command. HasValues (line_of command)) (take l.command-index l.commands)

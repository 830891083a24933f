use Rattle.std.proofs.Common.{Ok, ap, inr, ◌∙◌}
use Rattle.orca_cues.proofs.script.read_command.Goals as goal

pub returns-in-Ok-Some-clause-grammar : goal.returns-in-Ok-Some-clause-grammar
returns-in-Ok-Some-clause-grammar c =
    let command = c.in-Ok-Some.command in
    inr (
      command,
      (c.read_line.ensures.command command).0 (c.in-Ok-Some.is
          ∙ ap Ok c.in-Ok-Some.field-0-is),
    )

use Rattle.std.proofs.Common.{◌≡◌, Some, Ok, ◌+◌, inr, sym, ◌∙◌, ap}
use Rattle.std.proofs.lemmas.Option.{none-some, same_Some}
use Rattle.orca_base.specs.declared.command.Command.{Command}
use Rattle.orca_script.specs.Grammar.{IsRefusedAt}
use Rattle.orca_script.proofs.Refusals.{no_command, command_read, refused, reading-command, reading-refused}
use Rattle.orca_script.proofs.read.read_line.Goals as goal
use Rattle.orca_script.proofs.read.read_line.Goals.{In-Err}

-- a line without a command has none by the grammar
pub returns-then-has_no_command-clause-command : goal.returns-then-has_no_command-clause-command
returns-then-has_no_command-clause-command c command = (
  (λ same. cc),
  (λ found. absurd
      (none-some command (sym
      (no_command c.args.line.now (sym c.has_no_command.ensures ∙ c.if-has_no_command.true))
      ∙ found))),
)

-- the command that is read is the line's
pub returns-in-Ok-clause-command : goal.returns-in-Ok-clause-command
returns-in-Ok-clause-command c command =
    let read = command_read c.args.line.now _ c.in-Ok.command (sym c.read_command.ensures.read
    ∙ c.in-Ok.is) in (
      (λ same. let at : c.in-Ok.command ≡ command = cc in read ∙ ap Some at),
      (λ found. let at : c.in-Ok.command ≡ command =
          same_Some c.in-Ok.command command (sym read ∙ found) in
          ap (λ (x : Command). Ok (Some x)) at),
    )

-- a line that isn't read is outside the grammar
stops : (c : In-Err) → IsRefusedAt c.args.line.now (c.in-Err.count + 1)
stops c = refused c.args.line.now c.in-Err.count (sym c.has_no_command.ensures
    ∙ c.if-has_no_command.false) (sym c.read_command.ensures.read ∙ c.in-Err.is)
    c.in-Err.ensures.within

pub returns-in-Err-clause-command : goal.returns-in-Err-clause-command
returns-in-Err-clause-command c command =
    ((λ same. cc), (λ found. absurd ((stops c).no_line (inr (command, found)))))

pub returns-in-Err-clause-refused : goal.returns-in-Err-clause-refused
returns-in-Err-clause-refused c = stops c

pub returns-in-Ok-clause-reading : goal.returns-in-Ok-clause-reading
returns-in-Ok-clause-reading c = reading-command c.args.line.now _ c.in-Ok.command
    (sym c.has_no_command.ensures ∙ c.if-has_no_command.false) (sym c.read_command.ensures.read
    ∙ c.in-Ok.is)

pub returns-in-Err-clause-reading : goal.returns-in-Err-clause-reading
returns-in-Err-clause-reading c =
    reading-refused c.args.line.now c.in-Err.count (sym c.has_no_command.ensures
    ∙ c.if-has_no_command.false) (sym c.read_command.ensures.read ∙ c.in-Err.is)

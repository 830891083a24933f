use Rattle.std.proofs.Common.{◌≡◌, Some, Ok, ◌+◌, inr, sym, ◌∙◌, ap}
use Rattle.std.proofs.lemmas.Option.{none-some, same_Some}
use Rattle.orca_script.specs.declared.format_2.Line.{Line}
use Rattle.orca_script.specs.Format2.{IsLine2, LeavesAt}
use Rattle.orca_script.proofs.Format2Lines.{asked_found, asks_nothing, line_refused, reading2-asked, reading2-nothing, reading2-refused}
use Rattle.orca_script.proofs.format_2.read_line2.Goals as goal
use Rattle.orca_script.proofs.format_2.read_line2.Goals.{In-Err}

-- a line without a command asks for nothing by the grammar
pub returns-then-has_no_command-clause-reading : goal.returns-then-has_no_command-clause-reading
returns-then-has_no_command-clause-reading c =
    reading2-nothing c.args.line.now (sym c.has_no_command.ensures ∙ c.if-has_no_command.true)

pub returns-then-has_no_command-clause-asked : goal.returns-then-has_no_command-clause-asked
returns-then-has_no_command-clause-asked c asked = (
  (λ same. cc),
  (λ found. absurd
      (none-some asked (sym
      (asks_nothing c.args.line.now (sym c.has_no_command.ensures ∙ c.if-has_no_command.true))
      ∙ found))),
)

-- what is read is what the line asks for
pub returns-in-Ok-clause-reading : goal.returns-in-Ok-clause-reading
returns-in-Ok-clause-reading c = reading2-asked c.args.line.now c.in-Ok.asked
    (sym c.has_no_command.ensures ∙ c.if-has_no_command.false) (sym c.read_asked.ensures.read
    ∙ c.in-Ok.is)

pub returns-in-Ok-clause-asked : goal.returns-in-Ok-clause-asked
returns-in-Ok-clause-asked c asked =
    let found = asked_found c.args.line.now c.in-Ok.asked (sym c.read_asked.ensures.read
    ∙ c.in-Ok.is) in (
      (λ same. let at : c.in-Ok.asked ≡ asked = cc in found ∙ ap Some at),
      (λ is. let at : c.in-Ok.asked ≡ asked = same_Some c.in-Ok.asked asked (sym found ∙ is) in
          ap (λ (x : Line). Ok (Some x)) at),
    )

-- a line that isn't read is outside the grammar
stops : (c : In-Err) → LeavesAt IsLine2 c.args.line.now (c.in-Err.count + 1)
stops c = line_refused c.args.line.now c.in-Err.count (sym c.has_no_command.ensures
    ∙ c.if-has_no_command.false) (sym c.read_asked.ensures.read ∙ c.in-Err.is)
    c.in-Err.ensures.within

pub returns-in-Err-clause-reading : goal.returns-in-Err-clause-reading
returns-in-Err-clause-reading c =
    reading2-refused c.args.line.now c.in-Err.count (sym c.has_no_command.ensures
    ∙ c.if-has_no_command.false) (sym c.read_asked.ensures.read ∙ c.in-Err.is)

pub returns-in-Err-clause-asked : goal.returns-in-Err-clause-asked
returns-in-Err-clause-asked c asked =
    ((λ same. cc), (λ found. absurd ((stops c).no_line (inr (asked, found)))))

pub returns-in-Err-clause-refused : goal.returns-in-Err-clause-refused
returns-in-Err-clause-refused c = stops c

use Rattle.orca_cues.proofs.Checking.{read_by_grammar}
use Rattle.orca_cues.proofs.script.read_as.Goals as goal

-- the first line of format 2
pub returns-in-Ok-clause-grammar : goal.returns-in-Ok-clause-grammar
returns-in-Ok-clause-grammar c =
    rw (c.in-true-true.is-0, c.in-true-true.is-1)
    (c.in-Ok.field-0, (c.read_header.ensures.seed c.in-Ok.field-0).0 c.in-Ok.is)

pub returns-in-Err-clause-refused : goal.returns-in-Err-clause-refused
returns-in-Err-clause-refused c =
    rw (c.in-true-true.is-0, c.in-true-true.is-1) c.in-Err.ensures.refused

-- another line of format 2
pub returns-in-true-false-clause-grammar : goal.returns-in-true-false-clause-grammar
returns-in-true-false-clause-grammar c =
    rw (c.in-true-false.is-0, c.in-true-false.is-1)
    (read_by_grammar c.args.line.now c.read_line2.result c.read_line2.ensures.asked
    c.read_line2.ensures.nothing)

pub returns-in-true-false-clause-refused : goal.returns-in-true-false-clause-refused
returns-in-true-false-clause-refused c =
    rw (c.in-true-false.is-0, c.in-true-false.is-1) c.read_line2.ensures.refused

-- a line of format 1
pub returns-in-false-default-clause-reading : goal.returns-in-false-default-clause-reading
returns-in-false-default-clause-reading c =
    rw c.in-false-default.is-0 (c.read_command.ensures.reading c.args.first)

pub returns-in-false-default-clause-refused : goal.returns-in-false-default-clause-refused
returns-in-false-default-clause-refused c =
    rw c.in-false-default.is-0 c.read_command.ensures.refused

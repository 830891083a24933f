use Rattle.orca_cues.proofs.Checking.{Checks}
use Rattle.orca_cues.proofs.script.check_by.Given as goal

abbrev pub invariant-loop-line : goal.invariant-loop-line
invariant-loop-line l =
    (goal.iterator-loop-line).can_next l.line-iterator ×
    (goal.iterator-loop-line).is_finite l.line-iterator ×
    Checks l.format_2 l.text l.number l.line-iterator

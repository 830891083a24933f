use Rattle.orca_script.specs.Canonical.{Extends}
use Rattle.orca_cues.proofs.PrintedLines.{Prints}
use Rattle.orca_cues.proofs.printing.print_lines.Given as goal

abbrev pub invariant-loop-line : goal.invariant-loop-line
invariant-loop-line l =
    (goal.iterator-loop-line).can_next l.line-iterator ×
    (goal.iterator-loop-line).is_finite l.line-iterator ×
    Prints l.format_2 l.seed l.text l.fn.into.items l.number l.line-iterator l.into.items l.runs ×
    Extends l.fn.into.items l.into.items

use Rattle.orca_grid.proofs.Counting.{Counts}
use Rattle.orca_grid.proofs.read.size_of.Given as goal

abbrev pub invariant-loop-i : goal.invariant-loop-i
invariant-loop-i l = Counts l.bytes l.i l.height l.width l.column

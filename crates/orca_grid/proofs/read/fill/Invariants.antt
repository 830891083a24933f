use Rattle.orca_grid.proofs.Filling.{Fills}
use Rattle.orca_grid.proofs.read.fill.Given as goal

abbrev pub invariant-loop-byte : goal.invariant-loop-byte
invariant-loop-byte l = Fills l.bytes l.byte-index l.at l.grid

use Rattle.orca_cues.proofs.Drawing.{Draws}
use Rattle.orca_cues.proofs.maker.Maker.grid.Given as goal

abbrev pub invariant-loop-index : goal.invariant-loop-index
invariant-loop-index l = Draws l.self.seed l.self.dims l.index l.grid l.words

use Rattle.std.proofs.Common.{◌≡◌}
use Rattle.orca_edit.proofs.CopyLemmas.{first_glyphs}
use Rattle.orca_edit.proofs.copying.copy.Given as goal

-- the glyphs of the first places are read
abbrev pub invariant-loop-n : goal.invariant-loop-n
invariant-loop-n g l = l.cells.items ≡ first_glyphs (g.T.Look.sheet l.look) l.area l.n

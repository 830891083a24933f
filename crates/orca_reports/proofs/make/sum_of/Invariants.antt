use Rattle.std.proofs.Common.{◌≡◌, take}
use Rattle.std.specs.List.{fold}
use Rattle.orca_reports.specs.Sums.{sum_after}
use Rattle.orca_reports.proofs.make.sum_of.Given as goal

-- the glyphs so far are summed
abbrev pub invariant-loop-index : goal.invariant-loop-index
invariant-loop-index g l = l.sum ≡ fold sum_after 0 (take l.index (g.T.Look.sheet l.look).cells)

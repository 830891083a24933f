use Rattle.std.proofs.Common.{◌≡◌, ◌<◌, ℕ}
use Rattle.std.specs.Prelude.{slice_index}
use Rattle.orca_edge.proofs.owed.Owed.first.Given as goal

-- no end of the channels so far is owed
abbrev pub invariant-loop-channel : goal.invariant-loop-channel
invariant-loop-channel l = (lower : ℕ) → lower < l.channel → slice_index l.self.ends lower ≡ 0

use Rattle.std.proofs.Common.{◌≤◌, length}
use Rattle.std.specs.Io.KnownBytes.{Consumes}
use Rattle.orca_edge.proofs.whole.read_whole.Given as goal

-- what is kept was read, and is short enough
abbrev pub invariant-loop : goal.invariant-loop
invariant-loop g l = record {
  short : length l.bytes.items ≤ l.initial.most;
  read : Consumes (g.R.Read.remaining l.initial.from) (g.R.Read.remaining l.from) l.bytes.items;
}

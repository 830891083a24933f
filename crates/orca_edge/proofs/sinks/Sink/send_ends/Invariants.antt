use Rattle.std.proofs.Common.{◌≡◌, []}
use Rattle.orca_edge.specs.Taken.{HasEnds}
use Rattle.orca_edge.proofs.sinks.Sink.send_ends.Given as goal

-- some of the ends were sent, each of them whole
abbrev pub invariant-loop : goal.invariant-loop
invariant-loop g l = record {
  sent : HasEnds g.W.Write.contents l.fn.self l.self;
  whole : l.self.rest ≡ [];
}

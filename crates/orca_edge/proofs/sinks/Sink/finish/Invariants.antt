use Rattle.std.proofs.Common.{◌≡◌, length}
use Rattle.orca_edge.specs.Taken.{HasStill}
use Rattle.orca_edge.proofs.sinks.Sink.finish.Given as goal

-- what was taken of the rest is written
abbrev pub invariant-loop-rest : goal.invariant-loop-rest
invariant-loop-rest g l = record {
  still : HasStill g.W.Write.contents l.initial.self l.self;
  owed : l.self.owed ≡ l.initial.self.owed;
}

abbrev pub decreases-loop-rest : goal.decreases-loop-rest
decreases-loop-rest g l = length l.self.rest

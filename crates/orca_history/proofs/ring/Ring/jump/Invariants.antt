use Rattle.std.proofs.Common.{◌≡◌, length, take}
use Rattle.orca_history.proofs.ring.Ring.jump.Given as goal

-- the first patches stay
abbrev pub invariant-loop-self : goal.invariant-loop-self
invariant-loop-self l = record {
  rest : take l.count l.self ≡ take l.count l.initial.self;
}

abbrev pub decreases-loop-self : goal.decreases-loop-self
decreases-loop-self l = length l.self

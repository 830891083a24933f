use Rattle.std.proofs.Common.{◌≡◌, ◌+◌, ◌-◌, ◌≤◌, [], ◌∷◌, ◌++◌, length, drop}
use Rattle.orca_base.specs.Histories.{worn_of}
use Rattle.orca_history.specs.Trails.{touched_of}
use Rattle.orca_history.proofs.ring.Ring.push.Given as goal

-- the oldest are gone, and the others are worn as before
abbrev pub invariant-loop-self : goal.invariant-loop-self
invariant-loop-self l = record {
  within : length l.self ≤ length l.initial.self;
  rest : l.self ≡ drop (length l.initial.self - length l.self) l.initial.self;
  worn : worn_of (touched_of l.initial.self ++ l.touched ∷ [])
      ≡ length l.initial.self - length l.self
      + worn_of (touched_of l.self ++ l.touched ∷ []);
}

abbrev pub decreases-loop-self : goal.decreases-loop-self
decreases-loop-self l = length l.self

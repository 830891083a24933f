use Rattle.std.proofs.Common.{◌≡◌, ◌≤◌, take}
use Rattle.std.specs.Prelude.{count_by}
use Rattle.orca_jam.proofs.crew.count_away.Given as goal

-- those of the first players are counted
abbrev pub invariant-loop-player : goal.invariant-loop-player
invariant-loop-player l = record {
  count : l.count ≡ count_by (λ p. p.away) (take l.player-index l.players);
  few : l.count ≤ l.player-index;
}

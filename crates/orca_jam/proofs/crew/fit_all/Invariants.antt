use Rattle.std.proofs.Common.{◌≡◌, ◌++◌, map, take, drop, All}
use Rattle.orca_base.specs.Areas.{IsArea}
use Rattle.orca_jam.specs.Crews.{fitted_player}
use Rattle.orca_term.specs.Editing.{area_of}
use Rattle.orca_jam.proofs.crew.fit_all.Given as goal

-- the first players are fitted, and the others as they were
abbrev pub invariant-loop-player : goal.invariant-loop-player
invariant-loop-player l = record {
  players : l.players ≡ map (fitted_player l.dims) (take l.player-index l.fn.players)
      ++ drop l.player-index l.fn.players;
  inside : All (λ p. IsArea l.dims (area_of p.editor)) (take l.player-index l.players);
}

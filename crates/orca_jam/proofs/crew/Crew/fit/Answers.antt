use Rattle.std.proofs.Common.{false, arith}
use Rattle.orca_base.specs.Areas.{IsArea}
use Rattle.orca_jam.specs.Crews.{new_player}
use Rattle.orca_jam.specs.declared.player.Player.{Player}
use Rattle.orca_jam.proofs.Seats.{fitted, player-of}
use Rattle.orca_term.specs.Editing.{area_of}
use Rattle.orca_jam.proofs.crew.Crew.fit.Goals as goal

pub returns-clause-crew : goal.returns-clause-crew
returns-clause-crew c =
    rw (c.fit_all.ensures.players, ← c.self.view_is) (fitted c.self.inside c.args.dims)

pub returns-clause-inside : goal.returns-clause-inside
returns-clause-inside c hand there =
    player-of (λ (p : Player). IsArea c.args.dims (area_of p.editor)) c.fit_all.new.players
    c.self.inside.hands hand (new_player false) c.fit_all.ensures.inside
    (omega (arith, c.fit_all.auto.players, c.self.invariant.few, c.self.invariant.seats)) there

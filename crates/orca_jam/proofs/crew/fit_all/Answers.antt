use Rattle.std.proofs.Common.{◌<◌, get_or, length, arith}
use Rattle.std.proofs.lemmas.List.{get_or_default, take_more_set}
use Rattle.std.proofs.lemmas.List.Elements.{All-push}
use Rattle.std.proofs.lemmas.List.Edits.{map_over_more}
use Rattle.orca_base.specs.Areas.{IsArea}
use Rattle.orca_jam.specs.Crews.{fitted_player}
use Rattle.orca_jam.specs.declared.player.Player.{Player}
use Rattle.orca_term.specs.Editing.{area_of}
use Rattle.orca_jam.proofs.crew.fit_all.Goals as goal

pub loop-player-preserved : goal.loop-player-preserved
loop-player-preserved c =
    let old = c.args.players.now in
    let i = c.loop-player.player-index in
    let inside : i < length c.loop-player.players =
    omega (arith, c.loop-player.auto.players, c.loop-player-test.true) in
    record {
      players =
          rw c.fit.ensures.player
          (map_over_more (fitted_player c.args.dims) old c.loop-player.players i
          (get_or c.loop-player.players i c.player-item.result)
          c.loop-player-test.true c.loop-player.invariant.players
          (get_or_default c.loop-player.players i c.player-item.result _ inside));
      inside =
          rw (take_more_set c.loop-player.players i _ inside)
          (All-push (λ (p : Player). IsArea c.args.dims (area_of p.editor)) _ _
          c.loop-player.invariant.inside c.fit.ensures.inside);
    }

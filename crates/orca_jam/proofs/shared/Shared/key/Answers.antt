use Rattle.std.proofs.Common.{ap, ◌∙◌}
use Rattle.orca_jam.proofs.JamLemmas.{granted, sound-denied}
use Rattle.orca_jam.specs.Crews.{player_at}
use Rattle.orca_jam.specs.Jamming.{around_in, jam_state}
use Rattle.orca_jam.specs.declared.player.Player.{Player}
use Rattle.orca_jam.proofs.shared.Shared.key.Goals as goal

pub returns-in-Ok-clause-jams : goal.returns-in-Ok-clause-jams
returns-in-Ok-clause-jams g c =
    let s = jam_state g.M.Machine c.args.self.now in
    granted s c.args.hand c.args.key c.in-Ok.wish c.player-player.result c.ask.new.self c.grant.result
    (jam_state g.M.Machine c.grant.new.self) c.grant.new.messages c.around-around.result
    c.player-player.ensures
    (c.around-around.ensures
    ∙ (ap (λ (p : Player). around_in s.machine p.editor s.screen c.own_for-own.result) c.player-player.ensures
    ∙ ap (around_in s.machine (player_at s.crew c.args.hand).editor s.screen) c.own_for-own.ensures))
    c.in-Ok.ensures.answer c.in-Ok.ensures.asked c.grant.ensures.wished

pub returns-in-Err-clause-sound : goal.returns-in-Err-clause-sound
returns-in-Err-clause-sound g c =
    rw c.in-Err.ensures.denied
    (sound-denied (g.M.Machine.machine c.args.self.now.machine) c.args.self.now.crew c.args.hand
    c.args.key c.requires.sound c.requires.hand)

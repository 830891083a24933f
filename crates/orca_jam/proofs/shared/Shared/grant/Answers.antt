use Rattle.std.proofs.Common.{◌≡◌, Err, ap, ◌∙◌}
use Rattle.orca_edit.specs.Obeying.{MachineState}
use Rattle.orca_edit.specs.Prices.{kept_after}
use Rattle.orca_jam.proofs.JamLemmas.{acted-same, sound-with}
use Rattle.orca_jam.specs.Crews.{with_player}
use Rattle.orca_jam.proofs.shared.Shared.grant.Goals as goal

pub returns-in-Err-clause-wished : goal.returns-in-Err-clause-wished
unfolding kept_after
returns-in-Err-clause-wished g c =
    let told = c.in-Err.ensures in
    let same = acted-same _ _ _ c.in-Err.fault _ told.acts in
    rw c.in-Do.is (record {
      reply = Err c.in-Err.fault;
      told = ap Err c.failed.ensures;
      acts = told.acts;
      kept = told.kept;
      after = record {
        machine = same.0;
        kept = told.kept;
        crew =
            c.seat.ensures
            ∙ ap (with_player c.args.hand c.args.player.now) told.err;
        silent = same.1;
      };
    })

pub returns-in-Err-clause-sound : goal.returns-in-Err-clause-sound
returns-in-Err-clause-sound g c =
    let m : MachineState = g.M.Machine.machine c.args.self.now.machine in
    let n : MachineState = g.M.Machine.machine c.act.new.self.machine in
    let told = c.in-Err.ensures in
    let same : n ≡ m = (acted-same _ _ _ c.in-Err.fault _ told.acts).0 in
    let crew : c.act.new.self.crew ≡ c.args.self.now.crew = told.err in
    rw (c.seat.ensures, crew, same)
    (sound-with m c.args.self.now.crew c.args.hand c.args.player.now c.requires.sound c.requires.hand
    c.requires.inside)

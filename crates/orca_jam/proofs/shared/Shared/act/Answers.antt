use Rattle.std.proofs.Common.{◌≡◌, ℕ, Ok, arith, ap, sym, ◌∙◌}
use Rattle.std.proofs.Math.Path.{subst}
use Rattle.orca_edit.specs.Obeying.{MachineState}
use Rattle.orca_jam.proofs.JamLemmas.{acted-limit, acted-same, sound-after}
use Rattle.orca_jam.specs.Crews.{CrewState, took_by}
use Rattle.orca_jam.specs.Jamming.{AreInside, IsJam, crew_after, crew_in}
use Rattle.orca_jam.proofs.shared.Shared.act.Goals as goal

pub took-requires : goal.took-requires
took-requires g c =
    let limit =
    acted-limit (g.M.Machine.machine c.args.self.now.machine) (g.M.Machine.machine c.act.new.self)
    c.args.command.now (Ok c.in-Ok.reply) c.act.new.messages c.in-Ok.ensures.acts in
    record { room = λ shared. omega (arith, limit, c.moments.ensures.few, c.requires.sound.room) }

pub returns-in-Err-clause-sound : goal.returns-in-Err-clause-sound
returns-in-Err-clause-sound g c =
    let same =
    acted-same (g.M.Machine.machine c.args.self.now.machine) (g.M.Machine.machine c.act.new.self)
    c.args.command.now c.in-Err.fault c.act.new.messages c.in-Err.ensures.acts in
    subst (λ (m : MachineState). IsJam m c.args.self.now.crew) (sym same.0) c.requires.sound

pub returns-in-Ok-clause-sound : goal.returns-in-Ok-clause-sound
returns-in-Ok-clause-sound g c =
    let m : MachineState = g.M.Machine.machine c.args.self.now.machine in
    let n : MachineState = g.M.Machine.machine c.act.new.self in
    let old : CrewState = c.args.self.now.crew in
    let crew : c.fit.new.crew ≡ crew_after c.args.hand c.args.command.now n old =
    c.fit.ensures.crew
    ∙ ap (crew_in n) (c.took.ensures
    ∙ ap (λ (k : ℕ). took_by c.args.hand c.args.command.now k old) c.moments.ensures.moments) in
    subst (IsJam n) (sym crew)
    (sound-after m n old c.args.hand c.args.command.now c.in-Ok.reply c.act.new.messages
    c.requires.sound c.in-Ok.ensures.acts c.requires.redo
    (subst (AreInside n) crew c.fit.ensures.inside))

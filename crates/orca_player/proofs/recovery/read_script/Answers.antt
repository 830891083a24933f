use Rattle.std.proofs.Common.{arith, refl}
use Rattle.orca_cues.proofs.LineCounts.{lines_few}
use Rattle.orca_player.proofs.RecoveryLemmas.{all_sound, first_wrong, later_wrong}
use Rattle.orca_player.proofs.recovery.read_script.Goals as goal

pub overflow_add-wrong : goal.overflow_add-wrong
overflow_add-wrong g c =
    let few = lines_few c.whole_lines-text.result.now in
    omega (
      arith,
      few,
      c.lines_before.ensures.few,
      c.in-Err.ensures.first.present,
      c.whole_lines-text.ensures.short,
      c.requires.script,
    )

pub returns-in-Ok : goal.returns-in-Ok
returns-in-Ok g c =
    rw (← c.whole_lines-text.ensures.lines)
    (all_sound _ _ _ _ (c.in-Ok.ensures.ok.0 refl) c.do_sound.ensures)

pub returns-then-fault-eq1 : goal.returns-then-fault-eq1
returns-then-fault-eq1 g c =
    rw (← c.whole_lines-text.ensures.lines)
    (first_wrong _ _ _ _ _ _ c.in-Err.ensures.fault c.if-fault-eq1.true)

pub returns-else-fault-eq1 : goal.returns-else-fault-eq1
returns-else-fault-eq1 g c =
    rw (← c.whole_lines-text.ensures.lines)
    (later_wrong _ _ _ _ _ c.in-Err.ensures.fault c.if-fault-eq1.false
    (rw c.lines_before.ensures.lines at c.do_sound-in-Err.ensures))

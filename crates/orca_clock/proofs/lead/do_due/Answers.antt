use Rattle.std.proofs.Common.{◌≡◌, true, refl, arith}
use Rattle.std.specs.Prelude.{Ok, Err, None}
use Rattle.std.proofs.lemmas.Grind.{common_steps}
use Rattle.orca_course.proofs.DoingLemmas.{does_cut, does_err, does_still, does_then}
use Rattle.orca_clock.specs.Leaders.{clocked_course, clock_due_course}
use Rattle.orca_clock.proofs.PartLemmas.{led_did}
use Rattle.orca_clock.proofs.lead.do_due.Goals as goal

-- it runs, and the clock was counted before it was given

pub returns-in_err-give_byte : goal.returns-in_err-give_byte
unfolding clock_due_course clocked_course
returns-in_err-give_byte g c =
    let runs : c.args.lead.now.leader.pulse.runs ≡ true = grind (arith, common_steps) in
    does_err _ _ c.from_residual.ensures.1
    (rw (← c.clock-first.ensures.metronome, ← c.clock-first.ensures.plays, runs)
    (led_did g.R.Report.manner _ _ _ _ (Err _) (does_cut _ c.in_err-give_byte.ensures)))

pub returns-then-not-first : goal.returns-then-not-first
unfolding clock_due_course clocked_course
returns-then-not-first g c =
    let runs : c.args.lead.now.leader.pulse.runs ≡ true = grind (arith, common_steps) in
    rw (← c.clock-first.ensures.metronome, ← c.clock-first.ensures.plays, c.if-not-first.true, runs)
    (led_did g.R.Report.manner _ _ _ _ (Ok None)
    (does_then _ c.in_ok-give_byte.ensures (does_still _ refl)))

pub returns : goal.returns
unfolding clock_due_course clocked_course
returns g c =
    let runs : c.args.lead.now.leader.pulse.runs ≡ true = grind (arith, common_steps) in
    rw (
      ← c.clock-first.ensures.metronome,
      ← c.clock-first.ensures.plays,
      c.if-not-first.false,
      runs,
    )
    (led_did g.R.Report.manner _ _ _ _ _ (does_then _ c.in_ok-give_byte.ensures c.do_frame.ensures))

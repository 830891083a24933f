use Rattle.std.specs.Prelude.{Err}
use Rattle.orca_course.proofs.DoingLemmas.{does_cut, does_then, goes_err}
use Rattle.orca_clock.specs.Leaders.{lead_finish}
use Rattle.orca_clock.proofs.PartLemmas.{led_did}
use Rattle.orca_clock.proofs.lead.finish.Goals as goal

pub returns-in_err-end : goal.returns-in_err-end
unfolding lead_finish
returns-in_err-end g c =
    goes_err _ _ c.from_residual.ensures.1
    (led_did g.R.Report.manner _ _ _ _ (Err _) (does_cut _ c.in_err-end.ensures))

pub returns : goal.returns
unfolding lead_finish
returns g c =
    led_did g.R.Report.manner _ _ _ _ _ (does_then _ c.in_ok-end.ensures c.give_byte.ensures)

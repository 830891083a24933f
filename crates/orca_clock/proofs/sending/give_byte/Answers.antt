use Rattle.orca_course.proofs.DoingLemmas.{does_owing}
use Rattle.orca_clock.proofs.ClockLemmas.{clock_did}
use Rattle.orca_clock.proofs.sending.give_byte.Goals as goal

pub returns : goal.returns
returns g c = does_owing _ _ (clock_did g.R.Report.manner _ _ _ c.send.ensures.called)

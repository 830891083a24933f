use Rattle.orca_clock.specs.Leaders.{toggle_course}
use Rattle.orca_clock.proofs.PartLemmas.{led_did}
use Rattle.orca_clock.proofs.lead.toggle.Goals as goal

pub returns : goal.returns
unfolding toggle_course
returns g c =
    rw (← c.toggle-byte.ensures.byte, ← c.toggle-byte.ensures.metronome)
    (led_did g.R.Report.manner _ _ _ _ _ c.give_byte.ensures)

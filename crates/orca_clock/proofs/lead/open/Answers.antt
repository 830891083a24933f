use Rattle.orca_clock.specs.Leaders.{lead_open}
use Rattle.orca_clock.proofs.PartLemmas.{led_did}
use Rattle.orca_clock.proofs.lead.open.Goals as goal

pub returns : goal.returns
unfolding lead_open
returns g c = led_did g.R.Report.manner _ _ _ _ _ c.give_byte.ensures

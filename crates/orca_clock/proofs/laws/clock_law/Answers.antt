use Rattle.orca_clock.proofs.TogetherLaws.{follows_bytes, heeds_clock, leads_follower}
use Rattle.orca_clock.proofs.laws.clock_law.Goals as goal

pub returns-clause-bytes : goal.returns-clause-bytes
returns-clause-bytes c = follows_bytes

pub returns-clause-clock : goal.returns-clause-clock
returns-clause-clock c = heeds_clock

pub returns-clause-leads : goal.returns-clause-leads
returns-clause-leads c = leads_follower

use Rattle.orca_clock.specs.Followers.{clock_byte_course}
use Rattle.orca_clock.proofs.PartLemmas.{followed_did}
use Rattle.orca_clock.proofs.follow.do_byte.Goals as goal

pub returns : goal.returns
unfolding clock_byte_course
returns g c =
    rw (← c.byte-beat.ensures.beat, ← c.byte-beat.ensures.pulse)
    (followed_did g.R.Report.manner _ _ _ _ _ c.do_beat.ensures)

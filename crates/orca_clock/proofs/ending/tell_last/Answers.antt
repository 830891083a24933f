use Rattle.orca_course.proofs.DoingLemmas.{does_owing}
use Rattle.orca_concert.specs.Concerts.{final_course}
use Rattle.orca_concert.proofs.CommandLemmas.{reported_done}
use Rattle.orca_clock.specs.Clocked.{last_text_course}
use Rattle.orca_clock.proofs.ending.tell_last.Goals as goal

pub returns-in-Left : goal.returns-in-Left
unfolding last_text_course final_course
returns-in-Left g c =
    rw (c.in-Stopped.is, c.in-Left.is)
    (reported_done g.R.Report.manner _ _ (does_owing _ _ (c.tell.ensures _ _)))

use Rattle.orca_course.proofs.DoingLemmas.{does_owing}
use Rattle.orca_concert.specs.Concerts.{final_course}
use Rattle.orca_concert.proofs.CommandLemmas.{reported_done}
use Rattle.orca_concert.proofs.concert.tell_last.Goals as goal

pub returns-in-None : goal.returns-in-None
unfolding final_course
returns-in-None g c =
    rw c.in-None.is (reported_done g.R.Report.manner _ _ (does_owing _ _ (c.tell.ensures _ _)))

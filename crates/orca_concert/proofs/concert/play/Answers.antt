use Rattle.orca_course.proofs.DoingLemmas.{does_afterwards}
use Rattle.orca_concert.specs.Concerts.{concert_course, last_course}
use Rattle.orca_concert.proofs.concert.play.Goals as goal

pub returns : goal.returns
unfolding concert_course
returns g c = does_afterwards (last_course _) c.in_ok-end.ensures c.finish.ensures

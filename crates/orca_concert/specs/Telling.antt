-- What a report is told, as its manner sees it.
use Rattle.orca_concert.specs.Manners.{News}
use Rattle.orca_concert.specs.Manners.News.{Closed, Done, Last, Stands}
use Rattle.orca_concert.specs.declared.news.News.{News as Told}
use Rattle.orca_concert.specs.declared.news.News.TheVariants as told
use Rattle.orca_course.specs.Standings.{standing}
use Rattle.orca_edit.specs.declared.machine.Machine.{Ghosts}

-- of a run that stands so
abbrev pub news_at : {M : Type 0} → Ghosts M → M → Told → News
news_at g m (told.Done line answer messages) = Done line answer messages.now
news_at g m (told.Stands tally) = Stands (standing (g.machine m) (g.kept m) tally)
news_at g m (told.Closed messages) = Closed messages.now
news_at g m told.Last = Last

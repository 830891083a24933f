-- What a performance prints of its commands: nothing. What it shows is painted, and what a frame
-- sent is kept for that.
use Rattle.std.specs.Prelude.{true, Ok}
use Rattle.orca_base.specs.declared.command.Reply.TheVariants.{Framed}
use Rattle.orca_concert.specs.Manners.{Manner, News, silence}
use Rattle.orca_concert.specs.Manners.News.{Done}
use Rattle.orca_term.specs.Traffic.{FrameSent, sent_after}

-- what is kept after news: those of a frame that was played
abbrev pub sent_by : News → FrameSent → FrameSent
sent_by (Done line (Ok (Framed tick)) messages) s = sent_after tick messages s
sent_by _ s = s

-- messages are handed out, and nothing is printed or saved
abbrev pub quiet_manner : Manner FrameSent
quiet_manner = record { hands = true; tells = λ news s. silence (sent_by news s) }

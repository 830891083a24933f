-- What is kept of the commands of a room that is recovered, and when a full history ends them.
use Rattle.std.specs.Prelude.{ℕ, ◌+◌, Bool, false, if◌then◌else◌, min, Result, Err}
use Rattle.orca_base.specs.declared.command.Reply.{Reply}
use Rattle.orca_base.specs.declared.command.Rule.{Rule}
use Rattle.orca_base.specs.declared.command.Rule.TheVariants.{HistoryFull}
use Rattle.orca_concert.specs.Manners.{Aside, Manner, News, halt, silence}
use Rattle.orca_concert.specs.Manners.News.{Done}
use Rattle.orca_course.specs.declared.ending.Stop.TheVariants.{Full}
use Rattle.orca_rig.specs.Outside.{last_count}

-- whether a full history ends them, and how many were done, as far as the counter goes
pub record Rescue : Type 0 where
  pub strict : Bool
  pub done : ℕ

-- nothing was done yet
abbrev pub rescue_at_start : Bool → Rescue
rescue_at_start strict = record { strict = strict; done = 0 }

-- one command more
abbrev pub one_more : Rescue → Rescue
one_more r = record { strict = r.strict; done = min (r.done + 1) last_count }

-- a command that the history has no room for ends them, or is passed over like any that is refused
abbrev pub done_tells : Result Reply Rule → Rescue → Aside Rescue
done_tells (Err HistoryFull) r = if r.strict then halt Full r else silence (one_more r)
done_tells answer r = silence (one_more r)

-- nothing is printed, handed out or saved
abbrev pub recovery_tells : News → Rescue → Aside Rescue
recovery_tells (Done line answer messages) r = done_tells answer r
recovery_tells other r = silence r

abbrev pub recovery_manner : Manner Rescue
recovery_manner = record { hands = false; tells = recovery_tells }

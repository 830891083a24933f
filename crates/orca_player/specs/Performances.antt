-- What was done of a performance by any performer.
use Rattle.std.specs.Prelude.{◌≡◌, ◌≢◌, ◌≤◌, List, [], ◌++◌, length, Ok, Some}
use Rattle.std.specs.Option.{option_map}
use Rattle.orca_base.specs.declared.limits.TheConstants.{MAX_POLLS}
use Rattle.orca_course.specs.Acts.{Act, polls_in}
use Rattle.orca_course.specs.Courses.{Course}
use Rattle.orca_course.specs.Following.{sounding}
use Rattle.orca_course.specs.Performers.{DoesPolls, Part, performance, polls_of}
use Rattle.orca_course.specs.Standings.{Standing}
use Rattle.orca_course.specs.Worlds.{World}
use Rattle.orca_course.specs.declared.ending.Ending.{Ending}
use Rattle.orca_course.specs.declared.item.Item.TheVariants as item
use Rattle.orca_course.specs.declared.item.Losses.{Losses}
use Rattle.orca_player.specs.Doing.{Came}
use Rattle.orca_player.specs.Outlines.{Brought, opening, status_of_ending}
use Rattle.orca_player.specs.declared.status.Status.{Status}
use Rattle.orca_player.specs.declared.status.Status.TheVariants.{Memory}

-- where a performer has finished, no note sounds
abbrev pub EndsSilent : {S : Type 0} → Part S → Type 0
EndsSilent {S} p =
    (ending : Ending) (s : S)
    → sounding (p.stance.standing (p.takes (item.Ended ending) s).state) ≡ []

-- a whole performance by what was brought
abbrev pub whole_course : {S : Type 0} → Part S → S → Brought → Course S Ending
whole_course p s b = performance p s b.opening b.hearings

-- a performance was done whole, and ended so
pub record Lasted {S : Type 0} (p : Part S) (s : S) (x : World) (ending : Ending) (t : S)
    (y : World) : Type 0 where
  pub came : Losses
  pub polls : DoesPolls p.stance (performance p s came) s x (Ok (Some ending)) t y

-- memory was refused to a performance, and the notes that sounded were ended, unless a port refused
-- it. Whatever was to follow the performance was not done
pub record BrokeOff {S : Type 0} (p : Part S) (s : S) (x y : World) : Type 0 where
  pub brought : Brought
  pub few : length brought.hearings ≤ MAX_POLLS
  pub all : polls_in (whole_course p s brought).acts ≡ polls_of brought.hearings
  pub came : (u : Standing) (c : Course S Ending) (more : List Act)
      → p.stance.standing s ≡ Some u → c.acts ≡ (whole_course p s brought).acts ++ more
      → (whole_course p s brought).bill ≤ c.bill
      → Came (opening p.stance (option_map status_of_ending) u c) x Memory y

-- a performance was done, with what is done at its end, from a state in which a session stands that
-- was opened: the polls that were answered are exactly those of its acts, and no more than may be; and
-- it led to this state, unless memory was refused
pub record Performed {S : Type 0} (p : Part S) (c : Brought → Course S Ending) (s : S) (x : World)
    (status : Status) (t : S) (y : World) : Type 0 where
  pub brought : Brought
  pub few : length brought.hearings ≤ MAX_POLLS
  pub all : polls_in (c brought).acts ≡ polls_of brought.hearings
  pub state : status ≢ Memory → (c brought).state ≡ t
  pub came : (u : Standing) → p.stance.standing s ≡ Some u
      → Came (opening p.stance (option_map status_of_ending) u (c brought)) x status y

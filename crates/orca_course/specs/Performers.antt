-- What a performer does for an item, and a whole performance.
use Rattle.std.specs.Prelude.{◌≡◌, ℕ, ◌≤◌, Bool, true, if◌then◌else◌, nat_le, List, [], ◌∷◌, ◌++◌, length, map, Option, Some, Result, Ok, Err}
use Rattle.std.specs.List.{flat_map}
use Rattle.std.specs.Option.{option_map}
use Rattle.orca_base.specs.declared.limits.TheConstants.{MAX_POLLS}
use Rattle.orca_trace.specs.Calls.{Poll}
use Rattle.orca_rig.specs.declared.inbox.Answer.{Answer}
use Rattle.orca_rig.specs.declared.inbox.Answer.TheVariants as answer
use Rattle.orca_course.specs.Acts.{AreDeaf, polls_in}
use Rattle.orca_course.specs.Acts.Act.{Await, Learn}
use Rattle.orca_course.specs.Courses.{Course, course, each, ended, lastly, mapped}
use Rattle.orca_course.specs.Doing.{Does, Stance}
use Rattle.orca_course.specs.Worlds.{World, inbox_failed}
use Rattle.orca_course.specs.declared.ending.Ending.{Ending}
use Rattle.orca_course.specs.declared.ending.Ending.TheVariants.{Lost, Spent, Stopped}
use Rattle.orca_course.specs.declared.ending.Stop.{Stop}
use Rattle.orca_course.specs.declared.ending.Stop.TheVariants.{Left}
use Rattle.orca_course.specs.declared.item.Losses.{Losses}
use Rattle.orca_course.specs.declared.item.Item.{Item}
use Rattle.orca_course.specs.declared.item.Item.TheVariants as item
use Rattle.orca_course.specs.declared.refused.NoMemory.{NoMemory}

-- where a performer stands in a state; the moment that its next poll waits for; what it does for an
-- item; and how many of the first hands it may tell what they are to see
pub record Part (S : Type 0) : Type 0 where
  pub stance : Stance S
  pub until : S → Option ℕ
  pub takes : Item → S → Course S Stop
  pub seats : S → ℕ

-- a performer does not ask the inbox: the loop alone does
unfoldable pub IsDeaf : {S : Type 0} → Part S → Type 0
IsDeaf {S} p = (i : Item) (s : S) → AreDeaf (p.takes i s).acts

-- it may tell as many hands wherever an item leads
unfoldable pub KeepsSeats : {S : Type 0} → Part S → Type 0
KeepsSeats {S} p = (i : Item) (s : S) → p.seats (p.takes i s).state ≡ p.seats s

-- what is done for an item
unfoldable pub given_course : {S : Type 0} → Part S → Item → S → Course S Ending
given_course p i s = mapped (λ t. t) (option_map Stopped) (p.takes i s)

-- ---- a performance

-- an answer that was heard: a poll, and what all calls had come to when what it brought was over
pub record Hearing : Type 0 where
  pub poll : Poll
  pub came : Losses

-- one turn of a performance: the inbox is asked, what calls came to is learnt, an item is given, or
-- it ends
pub data Turn : Type 0 where
  Asked : Poll → Turn
  Learned : Losses → Turn
  Given : Item → Turn
  Over : Ending → Turn

-- a poll waits for the moment that is due
unfoldable pub turn_course : {S : Type 0} → Part S → Turn → S → Course S Ending
turn_course p (Asked poll) s = course (Await (record poll { until = p.until s }) ∷ []) 0 s
turn_course p (Learned came) s = course (Learn came ∷ []) 0 s
turn_course p (Given i) s = given_course p i s
turn_course p (Over ending) s = ended ending s

-- what an answer brings: each byte, or a moment that is due
abbrev pub items_of : Answer → List ℕ → List Item
items_of (answer.Bytes hand count at) bytes = map (item.Byte hand at) bytes
items_of (answer.Due at) bytes = item.Due at ∷ []
items_of answer.End bytes = []
items_of answer.Failed bytes = []

-- that it was all, and then what the calls came to
abbrev pub over_turns : Losses → List Turn
over_turns came = Given item.Settle ∷ Learned came ∷ Given (item.Over came) ∷ []

-- so it is after bytes and a moment; the last answers end the performance
abbrev pub last_turns : Answer → Losses → List Turn
last_turns (answer.Bytes hand count at) came = over_turns came
last_turns (answer.Due at) came = over_turns came
last_turns answer.End came = Over (Stopped Left) ∷ []
last_turns answer.Failed came = Over Lost ∷ []

abbrev pub answer_turns : Answer → List ℕ → Losses → List Turn
answer_turns a bytes came = map Given (items_of a bytes) ++ last_turns a came

abbrev pub turns_of : Hearing → List Turn
turns_of h = Asked h.poll ∷ answer_turns h.poll.answer h.poll.bytes h.came

-- as many polls as may be were answered
abbrev pub spent : List Hearing → List Turn
spent heard = if nat_le MAX_POLLS (length heard) then Over Spent ∷ [] else []

-- the answers, one after another
abbrev pub heard_turns : List Hearing → List Turn
heard_turns heard = flat_map turns_of heard ++ spent heard

unfoldable pub attended : {S : Type 0} → Part S → S → List Hearing → Course S Ending
attended p s heard = each (turn_course p) (heard_turns heard) s

-- what comes first: the performance begins, and then what the calls came to
abbrev pub first_turns : Losses → List Turn
first_turns came = Given item.Start ∷ Learned came ∷ Given (item.Open came) ∷ []

-- what comes first, and then the answers
unfoldable pub begun : {S : Type 0} → Part S → S → Losses → List Hearing → Course S Ending
begun p s opening heard = each (turn_course p) (first_turns opening ++ heard_turns heard) s

-- what comes last; the performance has ended already
unfoldable pub finished : {S : Type 0} → Part S → Ending → S → Course S Ending
finished p ending s = mapped (λ t. t) (λ end. Some ending) (p.takes (item.Ended ending) s)

-- a whole performance
unfoldable pub performance : {S : Type 0} → Part S → S → Losses → List Hearing → Course S Ending
performance p s opening heard = lastly (begun p s opening heard) (finished p)

-- the inbox has failed exactly if that ended the performance
abbrev pub IsLostBy : Result (Option Ending) NoMemory → Bool → Bool → Type 0
IsLostBy (Ok (Some Lost)) was is = is ≡ true
IsLostBy (Ok end) was is = is ≡ was
IsLostBy (Err refused) was is = Unit {0}

-- the polls of what was heard
abbrev pub polls_of : List Hearing → List Poll
polls_of = map (λ (h : Hearing). h.poll)

-- some polls were answered, no more than may be: exactly those that are among the acts; and this
-- was done of what they make
pub record DoesPolls {S : Type 0} (v : Stance S) (c : List Hearing → Course S Ending)
    (s : S) (x : World) (result : Result (Option Ending) NoMemory) (t : S) (y : World)
    : Type 0 where
  pub heard : List Hearing
  pub few : length heard ≤ MAX_POLLS
  pub all : polls_in (c heard).acts ≡ polls_of heard
  pub lost : IsLostBy result (inbox_failed x) (inbox_failed y)
  pub did : Does v (c heard) s x result t y

-- What the list of the calls of a desk has to do with its objects and its records.
use Rattle.std.specs.Prelude.{◌≡◌, ℕ, ◌+◌, min, ◌<◌, ◌^◌, count_by, Bool, List, [], ◌∷◌, map, length, Option, Some, None, IfSome}
use Rattle.std.specs.List.{list_any}
use Rattle.orca_base.specs.Ports.{Sent}
use Rattle.orca_rig.specs.Arrived.{Log}
use Rattle.orca_rig.specs.Arrived as arrived
use Rattle.orca_rig.specs.Handed.{Attached}
use Rattle.orca_rig.specs.Outside.{Ask, last_count}
use Rattle.orca_rig.specs.Outside.Ask.{Append as AskAppend, Begin as AskBegin, Claim as AskClaim, Load as AskLoad, Remove as AskRemove, Save as AskSave}
use Rattle.orca_trace.specs.Calls.{Call, Poll}
use Rattle.orca_course.specs.Acts.{Act, given, polls_in}
use Rattle.orca_course.specs.Acts.Act.{Append, Attach, Await, Begin, Claim, Give, Listen, Load, Remove, Save, Tell}
use Rattle.orca_course.specs.Answered.{done_in, is_file_want, is_inbox_want, is_last_poll, is_listen, is_port_want, seats_of}

-- ---- what objects that tell their calls tell

-- the attached ports among acts
abbrev pub attached_in : List Act → List Attached
attached_in [] = []
attached_in (Attach attached ∷ acts) = attached ∷ attached_in acts
attached_in (_ ∷ acts) = attached_in acts

-- the calls of files among acts, as a store is asked for them
abbrev pub asked_in : List Act → List Ask
asked_in [] = []
asked_in (Load name text ∷ acts) = AskLoad name ∷ asked_in acts
asked_in (Save name bytes ∷ acts) = AskSave name bytes ∷ asked_in acts
asked_in (Begin name bytes ∷ acts) = AskBegin name bytes ∷ asked_in acts
asked_in (Append name bytes ∷ acts) = AskAppend name bytes ∷ asked_in acts
asked_in (Claim name bytes claimed ∷ acts) = AskClaim name bytes claimed ∷ asked_in acts
asked_in (Remove name ∷ acts) = AskRemove name ∷ asked_in acts
asked_in (_ ∷ acts) = asked_in acts

-- the name and the hands that the inbox was last asked to listen for, and the start that came
abbrev pub Listened : Type 0
Listened = Option (List ℕ) × Option ℕ × Option ℕ

abbrev pub listened_after : List Act → Listened → Listened
listened_after [] before = before
listened_after (Listen name hands start ∷ acts) before =
    listened_after acts (Some name, Some hands, start)
listened_after (_ ∷ acts) before = listened_after acts before

-- a poll, without the number of sends before it
abbrev pub uncounted : arrived.LoggedPoll → Poll
uncounted p = record { until = p.until; answer = p.answer; bytes = p.bytes }

-- the number of sends before each poll, after so many
abbrev pub counts_in : ℕ → List Act → List ℕ
counts_in n [] = []
counts_in n (Give sent ∷ acts) = counts_in (n + 1) acts
counts_in n (Await poll ∷ acts) = n ∷ counts_in n acts
counts_in n (_ ∷ acts) = counts_in n acts

-- what acts tell the hands
abbrev pub told_in : List Act → List arrived.Told
told_in [] = []
told_in (Tell hand bytes ∷ acts) = record { hand = hand; bytes = bytes } ∷ told_in acts
told_in (_ ∷ acts) = told_in acts

-- the log of an inbox is that of acts
pub record IsLogOf (acts : List Act) (log : Log) : Type 0 where
  pub listened : (log.name, log.hands, log.start) ≡ listened_after acts (None, None, None)
  pub polls : map uncounted log.polls ≡ polls_in acts
  pub told : log.told ≡ told_in acts

-- where the objects tell their calls, these are the acts that the calls of the list did; and each
-- poll was told how many sends came before it, if that fits
pub record Tells (handed : Option (List Sent)) (attached : Option (List Attached))
    (asked : Option (List Ask)) (log : Option Log) (calls : List Call) : Type 0 where
  pub sends : IfSome handed (λ told. told ≡ given (done_in calls))
  pub names : IfSome attached (λ told. told ≡ attached_in (done_in calls))
  pub asks : IfSome asked (λ told. told ≡ asked_in (done_in calls))
  pub heard : IfSome log (IsLogOf (done_in calls))
  pub counts : IfSome handed (λ told. IfSome log (λ kept. length told < 2 ^ 64
      → map (λ (p : arrived.LoggedPoll). p.sent) kept.polls ≡ counts_in 0 (done_in calls)))

-- ---- what is counted

-- each object was refused memory at as many calls as the list says it was, as far as it counts
pub record AreWanted (ports files inbox : ℕ) (calls : List Call) : Type 0 where
  pub of_ports : ports ≡ min (count_by is_port_want calls) last_count
  pub of_files : files ≡ min (count_by is_file_want calls) last_count
  pub of_inbox : inbox ≡ min (count_by is_inbox_want calls) last_count

-- ---- what is recorded

-- what an inbox says of itself is what the list of calls says
pub record Records (listened ended : Bool) (hands : ℕ) (calls : List Call) : Type 0 where
  pub listens : listened ≡ list_any is_listen calls
  pub ends : ended ≡ list_any is_last_poll calls
  pub seats : IfSome (seats_of calls) (λ seats. hands ≡ seats)

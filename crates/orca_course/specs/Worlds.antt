-- What a desk shows of the outside, and what acts make of it.
use Rattle.std.specs.Prelude.{ℕ, ◌+◌, ◌≤◌, ◌≡◌, Bool, true, false, List, [], ◌∷◌, ◌++◌, length, Option, Some, None, IfSome, IsSomeAnd, ◌<◌, Result, Ok, Err, Vec}
use Rattle.std.specs.Option.{option_map}
use Rattle.std.specs.List.{list_any}
use Rattle.std.specs.FinMap.{get}
use Rattle.std.specs.declared.alloc.Global.{Global}
use Rattle.orca_base.specs.declared.limits.TheConstants.{MAX_ROOM_BYTES}
use Rattle.orca_base.specs.Ports.{Sent}
use Rattle.orca_rig.specs.declared.fault.OutsideFault.{OutsideFault}
use Rattle.orca_rig.specs.declared.fault.OutsideFault.TheVariants.{Failed, Memory}
use Rattle.orca_rig.specs.declared.inbox.Answer.{Answer}
use Rattle.orca_rig.specs.Saved.{IsAppended, IsClaimed, IsRemoved, IsSaved}
use Rattle.orca_rig.specs.declared.files.Claim.{Claim as Claimed}
use Rattle.orca_rig.specs.Outside.{Contents, Rose}
use Rattle.orca_trace.specs.Calls.{Call}
use Rattle.orca_trace.specs.Calls.Call.{Append as CallAppend, Begin as CallBegin, Claim as CallClaim, Give as CallGive, Load as CallLoad, Remove as CallRemove, Save as CallSave}
use Rattle.orca_course.specs.Acts.{Act, ArePrintable, calls_in, given}
use Rattle.orca_course.specs.Acts.Act.{Await, Give, Learn}
use Rattle.orca_course.specs.Answered.{losses_of, done_in, is_file_fault, is_inbox_fault, is_last_poll, is_listen, is_port_fault, refused_in, seats_of}
use Rattle.orca_course.specs.declared.item.Losses.{Losses}
use Rattle.orca_course.specs.declared.refused.NoMemory.{NoMemory}
use Rattle.orca_course.specs.declared.refused.NoMemory.TheVariants.{InSend, Elsewhere}

-- ---- worlds

-- how often the ports, the files and the inbox have failed, as they count it
pub record Counts : Type 0 where
  pub ports : ℕ
  pub files : ℕ
  pub inbox : ℕ

-- the outside, as a run sees it: all calls so far, each with its answer; what the files hold, where
-- that is told; the counts of failures; and the steps that were counted
pub record World : Type 0 where
  pub calls : List Call
  pub contents : Option Contents
  pub faults : Counts
  pub paid : ℕ

-- the same world, where so much more is owed
abbrev pub owing : ℕ → World → World
owing n x = record x { paid = x.paid + n }

-- whether a port has failed at a call
abbrev pub has_failed : World → Bool
has_failed x = list_any is_port_fault x.calls

-- whether the files have failed at a call
abbrev pub file_failed : World → Bool
file_failed x = list_any is_file_fault x.calls

-- whether the inbox has failed
abbrev pub inbox_failed : World → Bool
inbox_failed x = list_any is_inbox_fault x.calls

-- nothing has failed
abbrev pub IsSound : World → Type 0
IsSound x = (has_failed x ≡ false) × (file_failed x ≡ false) × (inbox_failed x ≡ false)

-- whether the inbox was asked to listen
abbrev pub has_listened : World → Bool
has_listened x = list_any is_listen x.calls

-- there is a hand of this number
abbrev pub IsSeated : ℕ → World → Type 0
IsSeated hand x = IsSomeAnd (seats_of x.calls) (λ seats. hand < seats)

-- there are so many hands, or more
abbrev pub AreSeated : ℕ → World → Type 0
AreSeated hands x = (hand : ℕ) → hand < hands → IsSeated hand x

-- whether a poll has given a last answer
abbrev pub has_ended : World → Bool
has_ended x = list_any is_last_poll x.calls

-- the inbox was not called
abbrev pub LeavesInbox : World → World → Type 0
LeavesInbox x y =
    (has_listened y ≡ has_listened x) × (has_ended y ≡ has_ended x) × (inbox_failed y ≡ inbox_failed x)

-- ---- calls

-- the text of a file, which is no longer than that of a room: what the file of this name holds,
-- where that is told
abbrev pub IsTextOf : Option Contents → List ℕ → List ℕ → Type 0
IsTextOf contents name text =
    (length text ≤ MAX_ROOM_BYTES) × IfSome contents (λ files. get files name ≡ Some text)

-- a load gives the text of its file; and all other calls of files alone change what they hold
abbrev pub Stores : Call → Option Contents → Option Contents → Type 0
Stores (CallLoad name (Ok text)) old new = IsTextOf old name text × (new ≡ old)
Stores (CallSave name bytes answer) old new = IsSaved answer name bytes old new
Stores (CallBegin name bytes answer) old new = IsSaved answer name bytes old new
Stores (CallAppend name bytes answer) old new = IsAppended answer name bytes old new
Stores (CallClaim name bytes answer) old new = IsClaimed answer name bytes old new
Stores (CallRemove name answer) old new = IsRemoved answer name old new
Stores other old new = new ≡ old

-- calls lead from these contents to those, one after another
abbrev pub AreStored : List Call → Option Contents → Option Contents → Type 0
AreStored [] old new = new ≡ old
AreStored (call ∷ calls) old new =
    (between : Option Contents) × Stores call old between × AreStored calls between new

-- a count rose if its object failed, and else it stands still
abbrev pub IsCounted : Bool → ℕ → ℕ → Type 0
IsCounted true before now = (before ≤ now) × Rose before now
IsCounted false before now = now ≡ before

-- the counts after calls
pub record AreCounted (calls : List Call) (before now : Counts) : Type 0 where
  pub ports : IsCounted (list_any is_port_fault calls) before.ports now.ports
  pub files : IsCounted (list_any is_file_fault calls) before.files now.files
  pub inbox : IsCounted (list_any is_inbox_fault calls) before.inbox now.inbox

-- after these acts the calls have come to this: all that were made before, and those of the acts
pub record HaveCome (acts : List Act) (came : Losses) (old new : List Call) : Type 0 where
  pub since : List Call
  pub later : List Call
  pub calls : new ≡ old ++ (since ++ later)
  pub done : done_in since ≡ calls_in acts
  pub is : came ≡ losses_of (old ++ since)

-- wherever acts tell what calls came to, it is what those came to that were made before
unfoldable pub Learns : List Act → List Call → List Call → Type 0
Learns acts old new =
    (before : List Act) (came : Losses) (after : List Act) → acts ≡ before ++ Learn came ∷ after
    → HaveCome before came old new

-- the calls that were made since then did these acts, in order, and no others; files hold what the
-- saves left, where they tell it; each failure was counted; and what acts tell of calls is so
unfoldable pub AreCalled : List Act → World → World → Type 0
AreCalled acts x y =
    (since : List Call) × (y.calls ≡ x.calls ++ since) × (done_in since ≡ calls_in acts)
    × AreStored since x.contents y.contents × AreCounted since x.faults y.faults
    × Learns acts x.calls y.calls

-- these acts were done: exactly their calls were made, but for those that were refused memory; a
-- terminal can show each picture; and at most so many steps were taken
pub record Made (acts : List Act) (bill : ℕ) (x y : World) : Type 0 where
  pub called : AreCalled acts x y
  pub shows : ArePrintable acts
  pub paid : y.paid ≤ x.paid + bill

-- ---- refused memory

-- no call was refused memory
abbrev pub Sated : World → World → Type 0
Sated x y = refused_in y.calls ≡ refused_in x.calls

-- the next call of these acts is a send. It was refused memory, which was the last call; and no
-- other send was refused it
pub record Unsent (acts : List Act) (old new : List Call) : Type 0 where
  pub sent : Sent
  pub later : List Act
  pub next : calls_in acts ≡ Give sent ∷ later
  pub before : List Call
  pub last : new ≡ before ++ CallGive sent (Err Memory) ∷ []
  pub alone : given (refused_in before) ≡ given (refused_in old)

-- memory was refused to a send, the next of these acts; or elsewhere, and to no send
abbrev pub Wants : NoMemory → List Act → World → World → Type 0
Wants InSend left x y = Unsent left x.calls y.calls
Wants Elsewhere left x y = given (refused_in y.calls) ≡ given (refused_in x.calls)

-- a call on the outside was done, or it was refused memory
abbrev pub WasCalled : {T : Type 0} → Result T NoMemory → Act → World → World → Type 0
WasCalled (Ok done) act x y = Made (act ∷ []) 0 x y × Sated x y
WasCalled (Err refused) act x y = Made [] 0 x y × Wants refused (act ∷ []) x y

pub record Called {T : Type 0} (result : Result T NoMemory) (act : Act) (x y : World)
    : Type 0 where
  pub called : WasCalled result act x y

-- memory was refused, and a beginning of these acts was done
pub record AreBegun (acts : List Act) (refused : NoMemory) (x y : World) : Type 0 where
  pub done : List Act
  pub left : List Act
  pub splits : acts ≡ done ++ left
  pub made : Made done 0 x y
  pub wants : Wants refused left x y

-- calls on the outside were done, one after another, or one of them was refused memory
abbrev pub WereCalled : {T : Type 0} → List Act → Result T NoMemory → World → World → Type 0
WereCalled acts (Ok done) x y = Made acts 0 x y × Sated x y
WereCalled acts (Err refused) x y = AreBegun acts refused x y

pub record Calls {T : Type 0} (acts : List Act) (result : Result T NoMemory) (x y : World)
    : Type 0 where
  pub called : WereCalled acts result x y

-- what an answer comes to: a failure is recorded, and the run goes on; memory was refused here
abbrev pub settled : NoMemory → Result (Unit {0}) OutsideFault → Result (Unit {0}) NoMemory
settled refused (Ok done) = Ok tt
settled refused (Err Failed) = Ok tt
settled refused (Err Memory) = Err refused

-- and of one that gives something: nothing, where it failed
abbrev pub settled_with : {T : Type 0} → Result T OutsideFault → Result (Option T) NoMemory
settled_with (Ok given) = Ok (Some given)
settled_with (Err Failed) = Ok None
settled_with (Err Memory) = Err Elsewhere

-- the text that a load gives, if it gives one
abbrev pub loaded_text : Result (Option (Vec ℕ Global)) NoMemory → Option (List ℕ)
loaded_text (Ok text) = option_map (λ bytes. bytes.items) text
loaded_text (Err refused) = None

-- whether a claim made its file, unless it failed
abbrev pub claim_answer : Result (Option Claimed) NoMemory → Option Claimed
claim_answer (Ok answer) = answer
claim_answer (Err refused) = None

-- the moment at which an inbox listens, if it does
abbrev pub listen_moment : Result (Option ℕ) NoMemory → Option ℕ
listen_moment (Ok start) = start
listen_moment (Err refused) = None

-- a poll was made, with this answer and these bytes
pub record Polled (until : Option ℕ) (answer : Answer) (bytes : List ℕ) (x y : World) : Type 0 where
  pub made : Made (Await (record { until = until; answer = answer; bytes = bytes }) ∷ []) 0 x y
  pub sated : Sated x y

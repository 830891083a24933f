-- The inbox in memory: what it is still to answer.
use Rattle.std.specs.Prelude.{◌≡◌, ℕ, ◌+◌, ◌<◌, is_some, ◌&&◌, nat_le, nat_lt, if◌then◌else◌, Bool, true, false, List, [], ◌∷◌, ◌++◌, length, drop, Option, Some, None}
use Rattle.std.specs.List.{list_all}
use Rattle.orca_base.specs.declared.limits.TheConstants.{ARRIVAL_BYTES}
use Rattle.orca_rig.specs.declared.inbox.Answer.{Answer}
use Rattle.orca_rig.specs.declared.inbox.Answer.TheVariants as answer
use Rattle.orca_rig.specs.declared.mem_answer.MemAnswer.{MemAnswer}
use Rattle.orca_rig.specs.declared.mem_answer.MemAnswer.TheVariants.{Bytes, Due}
use Rattle.orca_rig.specs.Arrived.{Log, MayAnswer, moment_after, is_ending}
use Rattle.orca_rig.specs.InMemory.{is_to_fail}

-- an inbox in memory: the last moment that it answered, at first the one of the start; what it is
-- still to answer; the numbers of the calls that are to fail; and what every inbox tells
pub record Schedule : Type 0 where
  pub last : ℕ
  pub answers : List MemAnswer
  pub fail : List ℕ
  pub log : Log
  pub listened : Bool
  pub ended : Bool
  pub faults : ℕ
  pub wants : ℕ

-- how many calls it was asked: the `listen_hands` that is kept, and the polls
abbrev pub calls_of : Log → ℕ
calls_of log = (if is_some log.name then 1 else 0) + length log.polls

abbrev pub answer_moment : MemAnswer → ℕ
answer_moment (Bytes hand bytes at) = at
answer_moment (Due at) = at

-- no moment is below an earlier one, this moment being the first
abbrev pub is_in_order : ℕ → List MemAnswer → Bool
is_in_order first [] = true
is_in_order first (answer ∷ answers) =
    nat_le first (answer_moment answer) && is_in_order (answer_moment answer) answers

-- an arrival has at least one byte, and no more than it holds
abbrev pub is_arrival : MemAnswer → Bool
is_arrival (Bytes hand bytes at) = nat_le 1 (length bytes) && nat_le (length bytes) ARRIVAL_BYTES
is_arrival (Due at) = true

-- each of them is one
abbrev pub are_arrivals : List MemAnswer → Bool
are_arrivals = list_all is_arrival

-- a Due is passed over where no moment is waited for, and where it is below that moment
abbrev pub is_passed_over : Option ℕ → MemAnswer → Bool
is_passed_over until (Bytes hand bytes at) = false
is_passed_over None (Due at) = true
is_passed_over (Some moment) (Due at) = nat_lt at moment

-- the answers from the first one that isn't passed over
abbrev pub awaited : Option ℕ → List MemAnswer → List MemAnswer
awaited until [] = []
awaited until (answer ∷ answers) =
    if is_passed_over until answer then awaited until answers else answer ∷ answers

-- what a poll makes of the answers that are left: its answer, those that are left then, and the
-- bytes of the buffer
pub record Served : Type 0 where
  pub answer : Answer
  pub answers : List MemAnswer
  pub bytes : List ℕ

-- the first of these answers is given, and the end where there is none
abbrev pub first_turn : List MemAnswer → List ℕ → Served
first_turn [] buffer = record { answer = answer.End; answers = []; bytes = buffer }
first_turn (Bytes hand bytes at ∷ answers) buffer = record {
  answer = answer.Bytes hand (length bytes) at;
  answers = answers;
  bytes = bytes ++ drop (length bytes) buffer;
}
first_turn (Due at ∷ answers) buffer =
    record { answer = answer.Due at; answers = answers; bytes = buffer }

-- a call that is to fail answers so, and passes nothing over
abbrev pub served_after : Bool → Option ℕ → List MemAnswer → List ℕ → Served
served_after true until answers buffer =
    record { answer = answer.Failed; answers = answers; bytes = buffer }
served_after false until answers buffer = first_turn (awaited until answers) buffer

abbrev pub served : Schedule → Option ℕ → List ℕ → Served
served inbox until buffer =
    served_after (is_to_fail inbox.fail (calls_of inbox.log)) until inbox.answers buffer

-- answers that may come after this moment are answered in order: the answer may come now, and those
-- that are left may come after it; an answer that isn't the last is one of them
pub record IsAnsweredInOrder (until : Option ℕ) (last : ℕ) (before : List MemAnswer)
    (given : Answer) (after : List MemAnswer) : Type 0 where
  pub may : MayAnswer until last given
  pub in_order : is_in_order (moment_after given last) after ≡ true
  pub arrivals : are_arrivals after ≡ true
  pub fewer : is_ending given ≡ false → length after < length before

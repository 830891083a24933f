-- What an inbox was asked and answered.
use Rattle.std.specs.Prelude.{ℕ, ◌≤◌, Bool, true, false, List, [], ◌∷◌, ◌++◌, take, Option, Some, None, Result, Ok, Err, IsSomeAnd}
use Rattle.std.specs.Option.{option_map_or, unwrap_or}
use Rattle.orca_base.specs.declared.limits.TheConstants.{ARRIVAL_BYTES}
use Rattle.orca_rig.specs.declared.inbox.Answer.{Answer}
use Rattle.orca_rig.specs.declared.inbox.Answer.TheVariants as answer
use Rattle.orca_rig.specs.declared.fault.OutsideFault.{OutsideFault}
use Rattle.orca_rig.specs.declared.fault.OutsideFault.TheVariants.{Failed, Memory}

-- one poll: the moment that it was asked to wait for, where there was one; the number of sends
-- before it; its answer; and the bytes that came
pub record LoggedPoll : Type 0 where
  pub until : Option ℕ
  pub sent : ℕ
  pub answer : Answer
  pub bytes : List ℕ

-- bytes for a hand
pub record Told : Type 0 where
  pub hand : ℕ
  pub bytes : List ℕ

-- the name and the number of hands that `listen_hands` was given, the moment that it answered, the
-- polls, and what the hands were told
pub record Log : Type 0 where
  pub name : Option (List ℕ)
  pub hands : Option ℕ
  pub start : Option ℕ
  pub polls : List LoggedPoll
  pub told : List Told

-- nothing was asked yet
abbrev pub empty_log : Log
empty_log = record { name = None; hands = None; start = None; polls = []; told = [] }

-- it listened at a name for so many hands; and the moment that it answered, unless it failed
abbrev pub with_listen : List ℕ → ℕ → Option ℕ → Log → Log
with_listen name hands start log =
    record log { name = Some name; hands = Some hands; start = start }

-- a `listen_hands` that failed has no moment; one for which memory was refused isn't kept
abbrev pub after_listen : Result ℕ OutsideFault → List ℕ → ℕ → Log → Log
after_listen (Ok at) name hands log = with_listen name hands (Some at) log
after_listen (Err Failed) name hands log = with_listen name hands None log
after_listen (Err Memory) name hands log = log

-- a poll is kept as the last
abbrev pub after_poll : LoggedPoll → Log → Log
after_poll poll log = record log { polls = log.polls ++ poll ∷ [] }

-- what a hand is told is kept as the last, unless memory was refused
abbrev pub after_tell : {T E : Type 0} → Result T E → Told → Log → Log
after_tell (Ok done) told log = record log { told = log.told ++ told ∷ [] }
after_tell (Err refused) told log = log

-- how many hands are heard: those of a `listen_hands` that went well
abbrev pub hands_of : Log → ℕ
hands_of log = option_map_or (λ _. unwrap_or log.hands 0) log.start 0

-- how many bytes came with an answer
abbrev pub count_of : Answer → ℕ
count_of (answer.Bytes hand count at) = count
count_of (answer.Due at) = 0
count_of answer.End = 0
count_of answer.Failed = 0

-- the bytes that came with an answer: the first of those that were filled
abbrev pub arrived : Answer → List ℕ → List ℕ
arrived answer filled = take (count_of answer) filled

-- the last moment, after this answer
abbrev pub moment_after : Answer → ℕ → ℕ
moment_after (answer.Bytes hand count at) last = at
moment_after (answer.Due at) last = at
moment_after answer.End last = last
moment_after answer.Failed last = last

-- whether this is the last answer
abbrev pub is_ending : Answer → Bool
is_ending (answer.Bytes hand count at) = false
is_ending (answer.Due at) = false
is_ending answer.End = true
is_ending answer.Failed = true

-- what a poll may answer: no moment is below the last one; 1 byte or more come, and no more than an
-- arrival holds; and Due comes only where a moment was given, at that moment or later
abbrev pub MayAnswer : Option ℕ → ℕ → Answer → Type 0
MayAnswer until last (answer.Bytes hand count at) =
    (last ≤ at) × (1 ≤ count) × (count ≤ ARRIVAL_BYTES)
MayAnswer until last (answer.Due at) = (last ≤ at) × IsSomeAnd until (λ moment. moment ≤ at)
MayAnswer until last answer.End = Unit {0}
MayAnswer until last answer.Failed = Unit {0}

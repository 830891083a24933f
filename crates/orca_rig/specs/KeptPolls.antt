-- The inbox in memory, as its fields keep it.
use Rattle.std.specs.Prelude.{◌≡◌, ◌+◌, ◌<◌, true, false, map, length, string_bytes, vec_len, vec_capacity}
use Rattle.std.specs.Option.{option_map}
use Rattle.orca_rig.specs.declared.mem_inbox.Polled.{Polled}
use Rattle.orca_rig.specs.declared.mem_inbox.Telling.{Telling}
use Rattle.orca_rig.specs.declared.mem_inbox.MemInbox.TheInside.{Inside}
use Rattle.orca_rig.specs.Arrived.{LoggedPoll, Told, Log}
use Rattle.orca_rig.specs.Schedule.{Schedule, is_in_order, are_arrivals}

abbrev pub poll_of : Polled → LoggedPoll
poll_of polled = record {
  until = polled.until;
  sent = polled.sent;
  answer = polled.answer;
  bytes = polled.bytes;
}

abbrev pub told_of : Telling → Told
told_of telling = record { hand = telling.hand; bytes = telling.bytes.items }

abbrev pub log_of : Inside → Log
log_of inbox = record {
  name = option_map string_bytes inbox.name;
  hands = inbox.hands;
  start = inbox.start;
  polls = map poll_of inbox.polls.items;
  told = map told_of inbox.told.items;
}

abbrev pub schedule_of : Inside → Schedule
schedule_of inbox = record {
  last = inbox.last;
  answers = inbox.answers.items;
  fail = inbox.to_fail.items;
  log = log_of inbox;
  listened = inbox.listened;
  ended = inbox.ended;
  faults = inbox.misses.faults;
  wants = inbox.misses.wants;
}

-- no answer is below the last moment, each arrival has as many bytes as it may, and there is room
-- for every poll to come: one for each answer, and one for the end
pub record IsKeptInbox (inbox : Inside) : Type 0 where
  pub in_order : is_in_order inbox.last inbox.answers.items ≡ true
  pub arrivals : are_arrivals inbox.answers.items ≡ true
  pub room : inbox.ended ≡ false
      → vec_len inbox.polls + length inbox.answers.items < vec_capacity inbox.polls

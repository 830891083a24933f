use Rattle.std.proofs.Common.{◌≡◌, false}
use Rattle.outside_tests.proofs.tcp.hands_that_flood_are_heard_in_turn.Given as goal

-- the last answer hasn't come
abbrev pub invariant-loop-hand : goal.invariant-loop-hand
invariant-loop-hand g l = l.room.inbox.ended ≡ false

abbrev pub invariant-loop-turn : goal.invariant-loop-turn
invariant-loop-turn g l = l.room.inbox.ended ≡ false

use Rattle.std.proofs.Common.{◌≡◌, false}
use Rattle.outside_tests.proofs.tcp.twenty_moments_come_on_time.Given as goal

-- the last answer hasn't come
abbrev pub invariant-loop-moment : goal.invariant-loop-moment
invariant-loop-moment g l = l.room.inbox.ended ≡ false

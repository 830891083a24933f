use Rattle.std.proofs.Common.{◌≡◌, false}
use Rattle.outside_tests.proofs.tcp.check_steps.Given as goal

-- the last answer hasn't come
abbrev pub invariant-loop-step : goal.invariant-loop-step
invariant-loop-step g l = l.room.inbox.ended ≡ false

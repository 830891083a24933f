use Rattle.std.proofs.Common.{◌≡◌, length}
use Rattle.orca_rig.specs.Schedule.{awaited}
use Rattle.orca_rig.proofs.mem_inbox.take_awaited.Given as goal

-- those that are gone were passed over
abbrev pub invariant-loop-answer : goal.invariant-loop-answer
invariant-loop-answer l = awaited l.until l.initial.answers.items ≡ awaited l.until l.answers.items

abbrev pub decreases-loop-answer : goal.decreases-loop-answer
decreases-loop-answer l = length l.answers.items

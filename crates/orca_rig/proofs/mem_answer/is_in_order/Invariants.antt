use Rattle.std.proofs.Common.{◌≡◌, length}
use Rattle.orca_rig.specs.Schedule.{is_in_order}
use Rattle.orca_rig.proofs.mem_answer.is_in_order.Given as goal

-- what is left decides
abbrev pub invariant-loop-rest : goal.invariant-loop-rest
invariant-loop-rest l = is_in_order l.start l.answers ≡ is_in_order l.last l.rest

abbrev pub decreases-loop-rest : goal.decreases-loop-rest
decreases-loop-rest l = length l.rest

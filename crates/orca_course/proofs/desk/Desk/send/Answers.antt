use Rattle.std.proofs.Common.{arith}
use Rattle.std.proofs.lemmas.Grind.{common_steps}
use Rattle.orca_course.proofs.ToldLemmas.{one_more}
use Rattle.orca_course.proofs.desk.Desk.send.Goals as goal

pub invariant_of-self : goal.invariant_of-self
invariant_of-self g c = grind (arith, common_steps, one_more)

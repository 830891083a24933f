use Rattle.std.proofs.Common.{refl, arith}
use Rattle.orca_course.proofs.WorldLemmas.{made_paid}
use Rattle.orca_course.proofs.desk.Desk.act.Goals as goal

pub returns-clause-made : goal.returns-clause-made
returns-clause-made g c = rw (← c.self.view_is) (made_paid _ _ _ refl refl refl (grind arith))

use Rattle.std.proofs.Common.{refl, arith}
use Rattle.std.proofs.lemmas.Grind.{common_steps}
use Rattle.orca_course.proofs.ToldLemmas.{is_next}
use Rattle.orca_course.proofs.WorldLemmas.{next_done, next_refused}
use Rattle.orca_course.proofs.desk.Desk.load.Goals as goal

pub returns-in-Ok-clause-called : goal.returns-in-Ok-clause-called
returns-in-Ok-clause-called g c =
    rw (← c.self.view_is) (next_done _ _ (grind arith) (grind arith) tt tt
    (is_next c.note.ensures (grind (arith, common_steps)) (grind (arith, common_steps)) refl))

pub returns-in-Err-Failed-clause-called : goal.returns-in-Err-Failed-clause-called
returns-in-Err-Failed-clause-called g c =
    rw (← c.self.view_is) (next_done _ _ (grind arith) (grind arith) tt tt
    (is_next c.note.ensures (grind (arith, common_steps)) (grind (arith, common_steps)) refl))

pub returns-clause-called : goal.returns-clause-called
returns-clause-called g c =
    rw (← c.self.view_is) (next_refused _ _ (grind arith) (grind arith)
    (is_next c.note.ensures (grind (arith, common_steps)) (grind (arith, common_steps)) refl))

use Rattle.std.proofs.Common.{refl, arith}
use Rattle.std.proofs.lemmas.Grind.{common_steps}
use Rattle.orca_course.proofs.ToldLemmas.{is_next}
use Rattle.orca_course.proofs.WorldLemmas.{next_done, next_refused}
use Rattle.orca_course.proofs.desk.Desk.tell.Goals as goal

pub returns-in-Ok : goal.returns-in-Ok
returns-in-Ok g c =
    rw (← c.self.view_is) (next_done _ _ (grind arith) (grind arith) tt tt
    (is_next c.note.ensures (grind (arith, common_steps)) (grind (arith, common_steps)) refl))

pub returns-in-Err : goal.returns-in-Err
returns-in-Err g c =
    rw (← c.self.view_is) (next_refused _ _ (grind arith) (grind arith)
    (is_next c.note-in-Err.ensures (grind (arith, common_steps)) (grind (arith, common_steps)) refl))

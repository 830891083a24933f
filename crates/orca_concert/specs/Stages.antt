-- What was done of a course of a session and its report, by the ghost members of their bounds.
use Rattle.std.specs.Prelude.{Option, Result}
use Rattle.orca_course.specs.Courses.{Course}
use Rattle.orca_course.specs.Doing.{Does}
use Rattle.orca_course.specs.Standings.{Standing, standing}
use Rattle.orca_course.specs.Worlds.{World, owing}
use Rattle.orca_course.specs.declared.refused.NoMemory.{NoMemory}
use Rattle.orca_edit.specs.declared.machine.Machine.{Ghosts}
use Rattle.orca_concert.specs.Concerts.{Concert, concert_with, stance_of}
use Rattle.orca_concert.specs.declared.report.Report.{Ghosts as ReportGhosts}
use Rattle.orca_concert.specs.declared.stage.Stage.{Stage}

-- where a run stands
abbrev pub standing_of : {M R : Type 0} → Ghosts M → Stage M R → Standing
standing_of g stage = standing (g.machine stage.machine) (g.kept stage.machine) stage.tally

-- where it stands, and what its report has kept
abbrev pub concert_at : {M R : Type 0} → Ghosts M → (r : ReportGhosts R) → Stage M R
    → Concert r.Kept
concert_at g r stage = concert_with (standing_of g stage) (r.kept stage.report)

-- this was done of a course
abbrev pub StageDid : {M R E : Type 0} → Ghosts M → (r : ReportGhosts R)
    → (Concert r.Kept → Course (Concert r.Kept) E) → Stage M R → World
    → Result (Option E) NoMemory → Stage M R → World → Type 0
StageDid g r c p x result q y =
    Does (stance_of r.manner) (c (concert_at g r p)) (concert_at g r p)
    (owing (g.residue p.machine) x) result (concert_at g r q) (owing (g.residue q.machine) y)

-- What was done of a performance, by the ghost members of its performer's bound.
use Rattle.std.specs.Prelude.{List, Option, Result}
use Rattle.orca_course.specs.Courses.{Course}
use Rattle.orca_course.specs.Doing.{Does, ending_of}
use Rattle.orca_course.specs.Performers.{DoesPolls, Hearing}
use Rattle.orca_course.specs.Worlds.{World, owing}
use Rattle.orca_course.specs.declared.ending.Ending.{Ending}
use Rattle.orca_course.specs.declared.item.Losses.{Losses}
use Rattle.orca_course.specs.declared.performer.Performer.{Ghosts}
use Rattle.orca_course.specs.declared.refused.NoMemory.{NoMemory}

-- this was done of a course
abbrev pub Performs : {P E : Type 0} → (g : Ghosts P) → (g.State → Course g.State E) → P → World
    → Result (Option E) NoMemory → P → World → Type 0
Performs g c p x result q y =
    Does g.part.stance (c (g.state p)) (g.state p) (owing (g.residue p) x) result (g.state q)
    (owing (g.residue q) y)

-- the same of a course by what the calls came to
abbrev pub PerformsCame : {P E : Type 0} → (g : Ghosts P) → (Losses → g.State → Course g.State E)
    → P → World → Result (Option E) NoMemory → P → World → Type 0
PerformsCame g c p x result q y = (came : Losses) × Performs g (c came) p x result q y

-- some polls were answered, and this was done of what they make. It ended, unless memory was
-- refused
abbrev pub PerformsPolls : {P : Type 0} → (g : Ghosts P)
    → (g.State → List Hearing → Course g.State Ending) → P → World → Result Ending NoMemory → P
    → World → Type 0
PerformsPolls g c p x result q y =
    DoesPolls g.part.stance (c (g.state p)) (g.state p) (owing (g.residue p) x) (ending_of result)
    (g.state q) (owing (g.residue q) y)

-- the same, by what the calls had come to at first
abbrev pub PerformsFrom : {P : Type 0} → (g : Ghosts P)
    → (g.State → Losses → List Hearing → Course g.State Ending) → P → World
    → Result Ending NoMemory → P → World → Type 0
PerformsFrom g c p x result q y =
    (opening : Losses) × PerformsPolls g (λ s. c s opening) p x result q y

-- A run of frames, from an opened grid to its end, and the calls of it.
use Rattle.std.specs.Prelude.{ℕ, List, [], ◌∷◌}
use Rattle.orca_base.specs.Grids.{Sheet}
use Rattle.orca_concert.specs.Concerts.{Concert, concert_with, concert_course}
use Rattle.orca_concert.specs.Manners.{Manner}
use Rattle.orca_course.specs.Acts.{Act}
use Rattle.orca_course.specs.Acts.Act.{Learn, Obey, Screen, Show, Stand, Strike}
use Rattle.orca_course.specs.Courses.{Course}
use Rattle.orca_course.specs.Standings.{standing}
use Rattle.orca_course.specs.declared.ending.Stop.{Stop}
use Rattle.orca_course.specs.declared.tally.Tally.{Tally}
use Rattle.orca_cues.specs.Cues.{frames_cue}
use Rattle.orca_edit.specs.Obeying.{MachineState, machine_at_start}
use Rattle.orca_edit.specs.Prices.{Kept}

-- an opened grid, a seed, and the most entries of the history
pub record Opened : Type 0 where
  pub sheet : Sheet
  pub seed : ℕ
  pub limit : ℕ

-- the session that opens it
abbrev pub opened_session : Opened → MachineState
opened_session o = machine_at_start o.sheet o.seed o.limit

-- so many frames of it, by what a report does
abbrev pub frames_run : {R : Type 0} → Manner R → R → ℕ → Opened → Kept → Tally
    → Course (Concert R) Stop
frames_run m r frames o kept tally =
    concert_course m (frames_cue frames) (concert_with (standing (opened_session o) kept tally) r)

-- the calls among acts, without the marks between them
abbrev pub outside_calls : List Act → List Act
outside_calls [] = []
outside_calls (Obey command ∷ acts) = outside_calls acts
outside_calls (Stand s ∷ acts) = outside_calls acts
outside_calls (Strike hand key ∷ acts) = outside_calls acts
outside_calls (Show hand cells ∷ acts) = outside_calls acts
outside_calls (Screen hand d ∷ acts) = outside_calls acts
outside_calls (Learn came ∷ acts) = outside_calls acts
outside_calls (act ∷ acts) = act ∷ outside_calls acts

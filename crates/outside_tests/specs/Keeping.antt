-- A performer that saves each byte, and keeps what it is told.
use Rattle.std.specs.Prelude.{[], ◌∷◌, None, false, refl, codes}
use Rattle.orca_course.specs.Acts.Act.{Save}
use Rattle.orca_course.specs.Courses.{Course, course, still}
use Rattle.orca_course.specs.Doing.{nowhere}
use Rattle.orca_course.specs.Performers.{IsDeaf, KeepsSeats, Part}
use Rattle.orca_course.specs.declared.ending.Stop.{Stop}
use Rattle.orca_course.specs.declared.item.Item.{Item}
use Rattle.orca_course.specs.declared.item.Item.TheVariants as item

unfoldable pub keeper_course : Item → Unit {0} → Course (Unit {0}) Stop
keeper_course item.Start s = still s
keeper_course (item.Open came) s = still s
keeper_course (item.Byte hand at byte) s = course (Save (codes "grid") (byte ∷ []) ∷ []) 0 s
keeper_course (item.Due at) s = still s
keeper_course item.Settle s = still s
keeper_course (item.Over came) s = still s
keeper_course (item.Ended ending) s = still s

abbrev pub keeper_part : Part (Unit {0})
keeper_part = record {
  stance = nowhere None false;
  until = λ s. None;
  takes = keeper_course;
  seats = λ s. 0;
}

-- it does not ask the inbox
pub keeper_is_deaf : IsDeaf keeper_part
unfolding IsDeaf keeper_course
keeper_is_deaf item.Start s = tt
keeper_is_deaf (item.Open came) s = tt
keeper_is_deaf (item.Byte hand at byte) s = tt
keeper_is_deaf (item.Due at) s = tt
keeper_is_deaf item.Settle s = tt
keeper_is_deaf (item.Over came) s = tt
keeper_is_deaf (item.Ended ending) s = tt

-- it tells nobody what to see
pub keeper_is_steady : KeepsSeats keeper_part
unfolding KeepsSeats
keeper_is_steady i s = refl

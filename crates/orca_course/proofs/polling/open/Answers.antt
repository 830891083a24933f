use Rattle.std.specs.Prelude.{[], Some, Ok, Err}
use Rattle.orca_course.specs.Answered.{losses_of}
use Rattle.orca_course.proofs.DoingLemmas.{does_err}
use Rattle.orca_course.proofs.PollLemmas.{given_left, given_then, told_took}
use Rattle.orca_course.proofs.SeatLemmas.{seated_given}
use Rattle.orca_course.specs.declared.item.Item.TheVariants as item
use Rattle.orca_course.proofs.polling.open.Goals as goal

pub returns-in_err-ending : goal.returns-in_err-ending
returns-in_err-ending g c = (
  losses_of [],
  does_err _ _ c.from_residual.ensures.1
      (given_left g.P.Performer.part item.Start _ (Err _) tt c.in_err-ending.ensures),
)

pub returns-in-Some : goal.returns-in-Some
returns-in-Some g c = (
  losses_of [],
  given_left g.P.Performer.part item.Start _ (Ok (Some _)) tt
      (rw c.in-Some.is at c.in_ok-ending.ensures),
)

pub give-requires-2 : goal.give-requires-2
give-requires-2 g c =
    seated_given g.P.Performer.part c.is_deaf.ensures c.is_steady.ensures item.Start
    (rw c.in_default.is at c.in_ok-ending.ensures) c.requires

pub returns : goal.returns
returns g c = (
  c.losses-came.result,
  given_then g.P.Performer.part item.Start _ (rw c.in_default.is at c.in_ok-ending.ensures)
      (told_took g.P.Performer.part item.Open _ c.losses-came.ensures c.give-2.ensures),
)

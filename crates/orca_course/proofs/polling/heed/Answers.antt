use Rattle.std.specs.Prelude.{[], Some, Ok, Err}
use Rattle.orca_course.specs.Answered.{losses_of}
use Rattle.orca_course.specs.Performers.{items_of}
use Rattle.orca_course.proofs.DoingLemmas.{does_err}
use Rattle.orca_course.proofs.PollLemmas.{answer_left, answer_then}
use Rattle.orca_course.proofs.SeatLemmas.{seated_items}
use Rattle.orca_course.proofs.polling.heed.Goals as goal

pub give_last-requires : goal.give_last-requires
give_last-requires g c =
    seated_items g.P.Performer.part c.is_deaf.ensures c.is_steady.ensures
    (items_of c.args.answer c.args.bytes.now) (rw c.in_default.is at c.in_ok-ending.ensures) c.requires

pub returns-in_err-ending : goal.returns-in_err-ending
returns-in_err-ending g c = (
  losses_of [],
  does_err _ _ c.from_residual.ensures.1
      (answer_left g.P.Performer.part c.args.answer c.args.bytes.now _ (Err _) tt c.in_err-ending.ensures),
)

pub returns-in-Some : goal.returns-in-Some
returns-in-Some g c = (
  losses_of [],
  answer_left g.P.Performer.part c.args.answer c.args.bytes.now _ (Ok (Some _)) tt
      (rw c.in-Some.is at c.in_ok-ending.ensures),
)

pub returns : goal.returns
returns g c = (
  c.give_last.ensures.0,
  answer_then g.P.Performer.part c.args.answer c.args.bytes.now _
      (rw c.in_default.is at c.in_ok-ending.ensures) c.give_last.ensures.1,
)

use Rattle.std.proofs.Common.{arith, refl}
use Rattle.std.specs.Option.{option_or}
use Rattle.std.specs.Prelude.{Ok, Err}
use Rattle.orca_course.specs.Courses.{keeping, mapped}
use Rattle.orca_course.proofs.DoingLemmas.{does_afterwards, does_afterwards_cut, does_err, does_mapped}
use Rattle.orca_concert.specs.Concerts.{last_course, saved_course}
use Rattle.orca_concert.proofs.concert.finish.Goals as goal

pub returns-in_err-closed : goal.returns-in_err-closed
unfolding last_course keeping mapped
returns-in_err-closed g c =
    does_err _ _ c.from_residual-in_err-closed.ensures.1
    (does_afterwards _ c.in_ok-end.ensures
    (does_afterwards_cut (saved_course _)
    (does_mapped (λ t. t) (option_or _) (Err _) refl (λ u. refl) c.in_err-closed.ensures)))

pub returns : goal.returns
unfolding last_course keeping mapped
returns g c =
    does_afterwards _ c.in_ok-end.ensures
    (does_afterwards (saved_course _)
    (does_mapped (λ t. t) (option_or _) (Ok _) refl (λ u. refl) c.in_ok-closed.ensures)
    (grind (arith, c.save.ensures)))

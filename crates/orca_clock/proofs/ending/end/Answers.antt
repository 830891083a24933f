use Rattle.std.proofs.Common.{refl}
use Rattle.std.specs.Prelude.{None, Ok, Err}
use Rattle.orca_course.proofs.DoingLemmas.{does_afterwards, does_afterwards_cut, does_mapped, goes_err}
use Rattle.orca_concert.specs.Concerts.{close_course}
use Rattle.orca_clock.specs.Clocked.{end_course}
use Rattle.orca_clock.proofs.ending.end.Goals as goal

pub returns-in_err-tell_last : goal.returns-in_err-tell_last
unfolding end_course
returns-in_err-tell_last g c =
    goes_err _ _ c.from_residual.ensures.1
    (does_mapped (λ t. t) (λ end. None) (Err _) refl (λ u. refl)
    (does_afterwards_cut (λ end t. close_course g.R.Report.manner t) c.in_err-tell_last.ensures))

pub returns-in_err-close : goal.returns-in_err-close
unfolding end_course
returns-in_err-close g c =
    goes_err _ _ c.from_residual-in_err-close.ensures.1
    (does_mapped (λ t. t) (λ end. None) (Err _) refl (λ u. refl)
    (does_afterwards (λ end t. close_course g.R.Report.manner t) c.in_ok-tell_last.ensures
    c.in_err-close.ensures))

pub returns : goal.returns
unfolding end_course
returns g c =
    does_mapped (λ t. t) (λ end. None) (Ok _) refl (λ u. refl)
    (does_afterwards (λ end t. close_course g.R.Report.manner t) c.in_ok-tell_last.ensures
    c.in_ok-close.ensures)

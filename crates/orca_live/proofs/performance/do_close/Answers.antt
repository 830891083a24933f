use Rattle.std.specs.Prelude.{Ok, Err}
use Rattle.orca_course.proofs.DoingLemmas.{goes_err}
use Rattle.orca_live.proofs.DoneLemmas.{close_did}
use Rattle.orca_live.proofs.performance.do_close.Goals as goal

pub returns-in_err-close : goal.returns-in_err-close
returns-in_err-close g c =
    goes_err _ _ c.from_residual.ensures.1 (close_did _ _ (Err _) c.in_err-close.ensures)

pub returns : goal.returns
returns g c = close_did _ _ (Ok _) c.in_ok-close.ensures

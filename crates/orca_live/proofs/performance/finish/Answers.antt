use Rattle.orca_course.proofs.DoingLemmas.{does_cut, does_then, goes_err}
use Rattle.orca_live.specs.Performing.{finish_course}
use Rattle.orca_live.proofs.performance.finish.Goals as goal

pub returns-in_err-write_journal : goal.returns-in_err-write_journal
unfolding finish_course
returns-in_err-write_journal g c =
    goes_err _ _ c.from_residual-in_err-write_journal.ensures.1
    (does_then _ c.in_ok-do_close.ensures (does_cut _ c.in_err-write_journal.ensures))

pub returns : goal.returns
unfolding finish_course
returns g c =
    does_then _ c.in_ok-do_close.ensures
    (does_then _ c.in_ok-write_journal.ensures c.save_last.ensures)

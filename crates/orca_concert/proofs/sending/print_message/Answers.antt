use Rattle.orca_course.proofs.CallLemmas.{calls_err, calls_given_up}
use Rattle.orca_concert.proofs.sending.print_message.Goals as goal

-- nothing was sent before the line was whole
pub returns-in_err-write_line : goal.returns-in_err-write_line
returns-in_err-write_line g c =
    calls_err {S = Unit {0}} _ _ c.from_residual.ensures.1 (calls_given_up _ _)

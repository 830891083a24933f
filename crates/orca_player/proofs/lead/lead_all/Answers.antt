use Rattle.std.proofs.Common.{refl, arith}
use Rattle.orca_player.proofs.ClockLemmas.{lead_silent}
use Rattle.orca_player.proofs.CourseLemmas.{performed_by}
use Rattle.orca_player.proofs.lead.lead_all.Goals as goal

pub perform_all-requires-clause-silent : goal.perform_all-requires-clause-silent
perform_all-requires-clause-silent g c = lead_silent g.R.Report.manner

pub perform_all-requires-clause-seated : goal.perform_all-requires-clause-seated
perform_all-requires-clause-seated g c = λ hand below. absurd (omega (arith, below))

pub returns : goal.returns
returns g c = performed_by _ _ refl c.perform_all.ensures

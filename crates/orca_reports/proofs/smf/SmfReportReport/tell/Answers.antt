use Rattle.std.proofs.Common.{◌≡◌}
use Rattle.orca_base.specs.declared.command.Reply.TheVariants.{Framed}
use Rattle.orca_reports.proofs.DoneLemmas.{recorded_done}
use Rattle.orca_reports.proofs.smf.SmfReportReport.tell.Goals as goal

pub returns-in_ok-record-in-Ok-Framed : goal.returns-in_ok-record-in-Ok-Framed
returns-in_ok-record-in-Ok-Framed g c = λ at hands.
    let tick : c.in-Ok-Framed.field-0 ≡ Framed c.in-Ok-Framed.tick =
    rw c.in-Ok-Framed.is at c.in-Ok-Framed.field-0-is in
    rw (c.in-Done.is, c.in-Ok-Framed.is, tick, ← c.self.view_is)
    (recorded_done _ _ _ c.in_ok-record-in-Ok-Framed.ensures.song
    c.in_ok-record-in-Ok-Framed.ensures.loss)

pub returns-in_ok-record-in-Closed : goal.returns-in_ok-record-in-Closed
returns-in_ok-record-in-Closed g c = λ at hands.
    rw (c.in-Closed.is, ← c.self-in-Closed.view_is)
    (recorded_done _ _ _ c.in_ok-record-in-Closed.ensures.song
    c.in_ok-record-in-Closed.ensures.loss)

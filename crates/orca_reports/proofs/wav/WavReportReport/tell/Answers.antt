use Rattle.orca_reports.proofs.DoneLemmas.{saved_done}
use Rattle.orca_reports.proofs.wav.WavReportReport.tell.Goals as goal

pub returns-in_ok-save-in-Last : goal.returns-in_ok-save-in-Last
returns-in_ok-save-in-Last g c = λ at hands.
    rw (c.in-Last.is, ← c.self.view_is)
    (saved_done _ _ _ _ c.samples.ensures c.as_slice.ensures.value c.put_header.ensures
    c.in_ok-save-in-Last.ensures)

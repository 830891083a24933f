use Rattle.std.proofs.Common.{arith, refl}
use Rattle.orca_reports.proofs.DoneLemmas.{framed_is}
use Rattle.orca_reports.proofs.wav.WavReport.play.Goals as goal

pub returns-clause-state : goal.returns-clause-state
returns-clause-state c =
    rw (← c.self.view_is)
    (framed_is _ _ _ _ c.self.inside.file.items _ (omega (arith, c.self.invariant)) refl
    c.self.invariant.0 c.in_ok-hear.ensures.heard c.in_ok-render.ensures.later
    c.in_ok-render.ensures.rendered)

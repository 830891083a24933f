use Rattle.std.proofs.Common.{sym, ◌∙◌}
use Rattle.orca_course.proofs.DoingLemmas.{does_then}
use Rattle.orca_live.specs.Performing.{frame_course}
use Rattle.orca_live.proofs.DoneLemmas.{does_paced}
use Rattle.orca_live.proofs.clock.do_frame.Goals as goal

pub returns : goal.returns
unfolding frame_course
returns g c =
    rw (sym c.is_full.ensures ∙ c.if-is_full.false)
    (does_then _ c.in_ok-do_command.ensures
    (does_paced _ _ _ _ c.fired.ensures))

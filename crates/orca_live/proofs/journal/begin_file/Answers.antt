use Rattle.std.proofs.Common.{◌∙◌}
use Rattle.orca_live.specs.Performing.{header_course}
use Rattle.orca_live.proofs.DoneLemmas.{begin_did}
use Rattle.orca_live.proofs.journal.begin_file.Goals as goal

pub returns : goal.returns
unfolding header_course
returns g c =
    begin_did _ _ _ _ _ _
    (c.as_slice.ensures.value ∙ (rw c.clear.ensures.items at c.in_ok-print_header.ensures.ok))
    c.begin.ensures

use Rattle.orca_live.proofs.DoneLemmas.{lines_did}
use Rattle.orca_live.proofs.journal.write_lines.Goals as goal

pub returns : goal.returns
returns g c =
    lines_did _ _ _ _ _ _ c.as_slice.ensures.value c.clear.ensures.items c.add-answer.ensures

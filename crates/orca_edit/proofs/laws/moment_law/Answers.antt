use Rattle.orca_edit.proofs.FoldLemmas.{piece_after-from, piece_after-next}
use Rattle.orca_edit.proofs.laws.moment_law.Goals as goal

pub returns-clause-next : goal.returns-clause-next
returns-clause-next c = piece_after-next

pub returns-clause-from : goal.returns-clause-from
returns-clause-from c = piece_after-from

use Rattle.std.proofs.Common.{arith, length}
use Rattle.orca_edit.proofs.FoldLemmas.{fold_entries-same, piece_after-closed, piece_after-hush, silence-closes}
use Rattle.orca_edit.proofs.laws.notes_law.Goals as goal

pub returns-clause-notes : goal.returns-clause-notes
returns-clause-notes c = fold_entries-same

pub returns-clause-closes : goal.returns-clause-closes
returns-clause-closes c = silence-closes

pub returns-clause-close : goal.returns-clause-close
returns-clause-close c = λ opened seed history closed.
    piece_after-closed opened seed history (length history) closed (omega arith)

pub returns-clause-hush : goal.returns-clause-hush
returns-clause-hush c = piece_after-hush

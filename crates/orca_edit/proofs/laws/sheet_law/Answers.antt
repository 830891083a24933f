use Rattle.orca_edit.proofs.SheetLemmas.{IsSheet-fold_entries, IsSheet-piece_after}
use Rattle.orca_edit.proofs.laws.sheet_law.Goals as goal

pub returns-clause-entries : goal.returns-clause-entries
returns-clause-entries c = IsSheet-fold_entries

pub returns-clause-history : goal.returns-clause-history
returns-clause-history c = IsSheet-piece_after

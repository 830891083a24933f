use Rattle.orca_edit.proofs.FoldLemmas.{fold_entries-append, piece_after-append, piece_after-push, piece_after-zero, seed-fold_entries}
use Rattle.orca_edit.proofs.laws.fold_law.Goals as goal

pub returns-clause-one : goal.returns-clause-one
returns-clause-one c = piece_after-push

pub returns-clause-more : goal.returns-clause-more
returns-clause-more c = piece_after-append

pub returns-clause-on : goal.returns-clause-on
returns-clause-on c = fold_entries-append

pub returns-clause-opened : goal.returns-clause-opened
returns-clause-opened c = piece_after-zero

pub returns-clause-seed : goal.returns-clause-seed
returns-clause-seed c = seed-fold_entries

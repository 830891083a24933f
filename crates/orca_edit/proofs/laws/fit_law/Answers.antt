use Rattle.orca_edit.proofs.FitLemmas.{AllFit-append, AllFit-parts, AllFit-push, AllFit-same, AllFit-take, AllFit-without, fits-moment}
use Rattle.orca_edit.proofs.laws.fit_law.Goals as goal

pub returns-clause-on : goal.returns-clause-on
returns-clause-on c = AllFit-append

pub returns-clause-parts : goal.returns-clause-parts
returns-clause-parts c = AllFit-parts

pub returns-clause-first : goal.returns-clause-first
returns-clause-first c = AllFit-take

pub returns-clause-one : goal.returns-clause-one
returns-clause-one c = AllFit-push

pub returns-clause-notes : goal.returns-clause-notes
returns-clause-notes c = AllFit-same

pub returns-clause-moment : goal.returns-clause-moment
returns-clause-moment c = fits-moment

pub returns-clause-without : goal.returns-clause-without
returns-clause-without c = AllFit-without

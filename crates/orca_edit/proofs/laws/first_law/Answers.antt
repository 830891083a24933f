use Rattle.orca_edit.proofs.FirstLemmas.{first-worn, jump_wears_none, touched_from-hush, touched_from-jumped, touched_from-later, touched_from-more}
use Rattle.orca_edit.proofs.laws.first_law.Goals as goal

pub returns-clause-worn : goal.returns-clause-worn
returns-clause-worn c = first-worn

pub returns-clause-later : goal.returns-clause-later
returns-clause-later c = touched_from-later

pub returns-clause-more : goal.returns-clause-more
returns-clause-more c = touched_from-more

pub returns-clause-jumped : goal.returns-clause-jumped
returns-clause-jumped c = touched_from-jumped

pub returns-clause-none : goal.returns-clause-none
returns-clause-none c = jump_wears_none

pub returns-clause-hush : goal.returns-clause-hush
returns-clause-hush c = touched_from-hush

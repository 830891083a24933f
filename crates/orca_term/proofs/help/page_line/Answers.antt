use Rattle.orca_term.proofs.HelpPages.{page_legible}
use Rattle.orca_term.proofs.help.page_line.Goals as goal

pub returns-then-page-eq1-clause-printable : goal.returns-then-page-eq1-clause-printable
returns-then-page-eq1-clause-printable c = rw c.keys_line.ensures (page_legible 1 c.args.y)

pub returns-else-page-eq1-clause-printable : goal.returns-else-page-eq1-clause-printable
returns-else-page-eq1-clause-printable c = rw c.operators_line.ensures (page_legible 2 c.args.y)

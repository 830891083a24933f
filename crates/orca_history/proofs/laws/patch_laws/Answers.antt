use Rattle.orca_history.proofs.Keeping.{kept-jumped, kept-pushed, newest-jumped, newest-pushed}
use Rattle.orca_base.proofs.WornFacts.{few-worn, many-worn}
use Rattle.orca_history.proofs.laws.patch_laws.Goals as goal

pub returns-clause-pushed : goal.returns-clause-pushed
returns-clause-pushed c = λ t entry newest trail is. (
  newest-pushed t entry newest trail is,
  λ n above below. kept-pushed t entry newest n trail above below,
)

pub returns-clause-jumped : goal.returns-clause-jumped
returns-clause-jumped c = λ t moment patch trail below. (
  newest-jumped t moment patch trail below,
  λ n earlier. kept-jumped t moment patch n trail below earlier,
)

pub returns-clause-worn : goal.returns-clause-worn
returns-clause-worn c = λ touched. (few-worn touched, λ n below. many-worn touched n below)

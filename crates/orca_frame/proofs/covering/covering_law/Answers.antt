use Rattle.orca_frame.proofs.CoveringLemmas.{covering}
use Rattle.orca_frame.proofs.MarkLemmas.{keeps-after_all, keeps-scanned}
use Rattle.orca_op.specs.Rules.{rule}
use Rattle.orca_frame.proofs.covering.covering_law.Goals as goal

pub returns-clause-any : goal.returns-clause-any
returns-clause-any c = covering

pub returns-clause-table : goal.returns-clause-table
returns-clause-table c = covering rule c.table_laws.ensures

pub returns-clause-deeds : goal.returns-clause-deeds
returns-clause-deeds c = keeps-after_all

pub returns-clause-marks : goal.returns-clause-marks
returns-clause-marks c = keeps-scanned

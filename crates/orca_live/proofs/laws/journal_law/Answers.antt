use Rattle.orca_live.proofs.JournalReads.{journals_are_scripts}
use Rattle.orca_live.proofs.laws.journal_law.Goals as goal

pub returns-clause-reads : goal.returns-clause-reads
returns-clause-reads c = λ seed commands small values.
    journals_are_scripts seed commands small values

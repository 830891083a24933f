use Rattle.orca_player.proofs.TopLemmas.{script_reads, script_saved}
use Rattle.orca_player.proofs.migration.print_and_save.Goals as goal

pub returns-in-Ok-save-clause-came : goal.returns-in-Ok-save-clause-came
returns-in-Ok-save-clause-came g c =
    rw c.settled.ensures
    (script_saved _ _ _ c.requires.checked
    (rw c.new-script.ensures.items at c.in-Ok.ensures.printed)
    (rw c.as_slice.ensures.value at c.in-Ok-save.ensures))

pub returns-in-Ok-save-clause-reads : goal.returns-in-Ok-save-clause-reads
returns-in-Ok-save-clause-reads g c = λ other. script_reads _ _ c.in-Ok.ensures.reads_back

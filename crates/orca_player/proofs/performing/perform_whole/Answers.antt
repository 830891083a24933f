use Rattle.orca_player.proofs.CourseLemmas.{broke_elsewhere, broke_in_send}
use Rattle.orca_player.proofs.performing.perform_whole.Goals as goal

pub returns-in-Ok-clause-lasted : goal.returns-in-Ok-clause-lasted
returns-in-Ok-clause-lasted g c =
    record { came = c.in-Ok.ensures.0; polls = c.in-Ok.ensures.1 }

pub returns-in-Err-InSend-clause-broke : goal.returns-in-Err-InSend-clause-broke
returns-in-Err-InSend-clause-broke g c =
    let cut = rw c.in-Err-InSend.field-0-is at c.in-Err-InSend.ensures in
    broke_in_send _ c.requires.begins c.requires.residue cut.0 cut.1

pub returns-in-Err-Elsewhere-clause-broke : goal.returns-in-Err-Elsewhere-clause-broke
returns-in-Err-Elsewhere-clause-broke g c =
    let cut = rw c.in-Err-Elsewhere.field-0-is at c.in-Err-Elsewhere.ensures in
    broke_elsewhere _ c.close_early.result c.requires.begins c.requires.residue cut.0 cut.1
    c.close_early.ensures

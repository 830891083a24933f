use Rattle.orca_player.proofs.RescueLemmas.{rescue_elsewhere, rescue_in_send, rescue_saved, rescue_unsaved}
use Rattle.orca_player.proofs.recovery.do_and_save.Goals as goal

pub returns-in-Ok-save_both : goal.returns-in-Ok-save_both
returns-in-Ok-save_both g c =
    rw (c.settled.ensures, c.status_learnt.ensures, c.planned_end.ensures)
    (rescue_saved _ _ _ _ _ _ c.requires.begins c.requires.residue _
    (rw c.of-source.ensures at c.in-Ok.ensures)
    (rw c.done_before-most.ensures at c.in-Ok-save_both.ensures.called)
    (rw c.done_before-most.ensures at c.in-Ok-save_both.ensures.reads))

pub returns-in-Err : goal.returns-in-Err
returns-in-Err g c =
    rescue_unsaved _ _ _ _ _ _ c.requires.begins c.requires.residue _ _
    (rw c.of-source.ensures at c.in-Ok.ensures)
    (rw c.done_before-most.ensures at c.in-Err.ensures.called)

pub returns-in-Err-InSend : goal.returns-in-Err-InSend
returns-in-Err-InSend g c =
    rescue_in_send _ _ _ _ _ _ c.requires.begins c.requires.residue _
    (rw (c.in-Err-InSend.field-0-is, c.of-source.ensures) at c.in-Err-InSend.ensures)

pub returns-in-Err-Elsewhere : goal.returns-in-Err-Elsewhere
returns-in-Err-Elsewhere g c =
    rescue_elsewhere _ _ _ _ _ _ c.requires.begins c.requires.residue _ c.close_early.result
    (rw (c.in-Err-Elsewhere.field-0-is, c.of-source.ensures) at c.in-Err-Elsewhere.ensures)
    c.close_early.ensures

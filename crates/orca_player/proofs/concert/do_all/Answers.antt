use Rattle.std.proofs.Common.{refl}
use Rattle.orca_concert.proofs.EndingLemmas.{concert-silent}
use Rattle.orca_player.specs.Outlines.{concert}
use Rattle.orca_player.proofs.CourseLemmas.{blamed-concert, lost-concert, opened_elsewhere, opened_in_send, opened_whole}
use Rattle.orca_player.proofs.concert.do_all.Goals as goal

pub returns-in-Ok : goal.returns-in-Ok
unfolding concert
returns-in-Ok g c =
    rw (c.settled.ensures, c.status_of_end.ensures)
    (opened_whole _ _ refl c.requires.begins c.requires.residue _ _
    (concert-silent g.R.Report.manner _ _) refl
    (blamed-concert _ _ _
    (lost-concert g.R.Report.manner _ _ c.in-Ok.ensures.did.made))
    c.in-Ok.ensures)

pub returns-in-Err-InSend : goal.returns-in-Err-InSend
unfolding concert
returns-in-Err-InSend g c =
    opened_in_send _ _ refl c.requires.begins c.requires.residue _
    (rw c.in-Err-InSend.field-0-is at c.in-Err-InSend.ensures)

pub returns-in-Err-Elsewhere : goal.returns-in-Err-Elsewhere
unfolding concert
returns-in-Err-Elsewhere g c =
    opened_elsewhere _ _ refl c.requires.begins c.requires.residue _ c.close_early.result
    (rw c.in-Err-Elsewhere.field-0-is at c.in-Err-Elsewhere.ensures)
    c.close_early.ensures

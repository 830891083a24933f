use Rattle.std.proofs.Common.{refl}
use Rattle.orca_player.specs.Outlines.{recovery_outline}
use Rattle.orca_player.proofs.CameLemmas.{by_unloaded, by_unread}
use Rattle.orca_player.proofs.RecoveryLemmas.{by_room}
use Rattle.orca_player.proofs.recovery.recover.Goals as goal

pub returns-in-Ok-Some : goal.returns-in-Ok-Some
returns-in-Ok-Some g c =
    by_room _ _ (rw c.in-Ok-Some.field-0-is at c.in-Ok-Some.ensures.called)
    (rw c.as_slice.ensures.value at c.hush_and_read.ensures)

pub returns-in-Ok-None : goal.returns-in-Ok-None
unfolding recovery_outline
returns-in-Ok-None g c =
    by_unloaded _ refl (rw c.in-Ok-None.field-0-is at c.in-Ok-None.ensures.called)

pub returns-in-Err : goal.returns-in-Err
unfolding recovery_outline
returns-in-Err g c = by_unread _ refl c.in-Err.ensures.called

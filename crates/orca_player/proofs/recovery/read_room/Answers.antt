use Rattle.std.proofs.Common.{sym}
use Rattle.orca_player.proofs.RecoveryLemmas.{parts_unread}
use Rattle.orca_player.proofs.recovery.read_room.Goals as goal

pub returns-in-Some : goal.returns-in-Some
returns-in-Some g c = rw c.in-Some.ensures.parts at c.read_grid.ensures

pub returns-in-None : goal.returns-in-None
returns-in-None g c = parts_unread _ _ _ (sym c.in-None.ensures.parts)

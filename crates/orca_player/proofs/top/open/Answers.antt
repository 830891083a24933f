use Rattle.std.proofs.Common.{refl}
use Rattle.std.specs.Prelude.{None}
use Rattle.orca_player.specs.Outlines.{loading}
use Rattle.orca_player.proofs.CameLemmas.{by_later, by_unloaded, by_unread, loaded}
use Rattle.orca_player.proofs.TopLemmas.{attach_cut, by_grid}
use Rattle.orca_player.proofs.top.open.Goals as goal

pub returns-in_default : goal.returns-in_default
returns-in_default g c = (None, attach_cut _ _ c.in_default.ensures.called.called)

pub returns-in-Ok-Some : goal.returns-in-Ok-Some
unfolding loading
returns-in-Ok-Some g c =
    by_grid _ _ _ c.in-Ok.ensures.called
    (by_later (loaded (rw c.in-Ok-Some.field-0-is at c.in-Ok-Some.ensures.called))
    (rw c.as_slice.ensures.value at c.read_grid.ensures))

pub returns-in-Ok-None : goal.returns-in-Ok-None
returns-in-Ok-None g c =
    by_grid _ _ None c.in-Ok.ensures.called
    (by_unloaded _ refl (rw c.in-Ok-None.field-0-is at c.in-Ok-None.ensures.called))

pub returns-in-Err : goal.returns-in-Err
returns-in-Err g c =
    by_grid _ _ None c.in-Ok.ensures.called
    (by_unread _ refl c.in-Err.ensures.called)

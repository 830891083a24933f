use Rattle.std.proofs.Common.{refl}
use Rattle.std.specs.Prelude.{Some}
use Rattle.orca_player.specs.Outlines.{follow_outline, waiting}
use Rattle.orca_player.proofs.CameLemmas.{by_after, kind_of, listened}
use Rattle.orca_player.proofs.follow.follow.Goals as goal

pub returns-in-Ok : goal.returns-in-Ok
unfolding waiting follow_outline
returns-in-Ok g c =
    by_after (record c.start.ensures.brought { start = Some _ })
    (listened c.in-Ok.ensures.listened) (kind_of c.start.ensures) c.start.ensures.came refl

pub returns-in-Err : goal.returns-in-Err
returns-in-Err g c = c.in-Err.ensures.ends _

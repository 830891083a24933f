use Rattle.orca_live.specs.Performing.{wish_course}
use Rattle.orca_live.specs.States.{unpainted}
use Rattle.orca_live.proofs.DoneLemmas.{redrawn_did}
use Rattle.orca_live.proofs.keyboard.do_wish.Goals as goal

pub returns-in-Redraw : goal.returns-in-Redraw
unfolding wish_course
returns-in-Redraw g c =
    rw c.in-Redraw.is
    (redrawn_did c.args.hand _ _ _ _
    (c.redraw_for.ensures (unpainted c.args.live.now.setting.screen)))

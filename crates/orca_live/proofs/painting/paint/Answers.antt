use Rattle.std.proofs.Common.{ap}
use Rattle.orca_live.specs.Marking.{marks_by}
use Rattle.orca_live.proofs.DoneLemmas.{paint_did}
use Rattle.orca_live.proofs.painting.paint.Goals as goal

pub paint_hands-requires : goal.paint_hands-requires
paint_hands-requires g c = rw c.fit.ensures.views c.requires

pub returns : goal.returns
returns g c =
    paint_did _ _ _ _ _ _ _
    (ap (λ machine. marks_by c.args.marking (g.M.Look.marks machine)) c.fit.ensures.machine)
    (ap g.M.Machine.residue c.fit.ensures.machine) c.fit.ensures.fitted c.paint_hands.ensures

use Rattle.std.proofs.Common.{◌∙◌, ap, arith, List, map}
use Rattle.orca_term.specs.Viewing.{Seen}
use Rattle.orca_live.specs.States.{viewed_in}
use Rattle.orca_live.proofs.DoneLemmas.{views_started}
use Rattle.orca_live.proofs.live.Live.start.Goals as goal

pub returns-clause-state : goal.returns-clause-state
returns-clause-state g c =
    let views = ap (λ (views : List Seen). map viewed_in views) c.in_ok-views.ensures
    ∙ views_started c.viewers.result c.args.setting.screen in
    grind (arith, views)

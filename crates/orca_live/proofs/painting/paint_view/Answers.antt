use Rattle.std.proofs.Common.{◌∙◌, ap, refl, sym}
use Rattle.orca_live.specs.States.{viewed_in}
use Rattle.orca_live.proofs.DoneLemmas.{picture_on, viewed_at}
use Rattle.orca_live.proofs.painting.paint_view.Goals as goal

pub returns-in-Bare-clause-painted : goal.returns-in-Bare-clause-painted
returns-in-Bare-clause-painted g c =
    let view = c.index_mut-view.result.now in
    let items = c.args.live.now.views.items in
    let margin = c.margin_of-margin.ensures in
    let on = c.paint_on.ensures in
    rw (c.from.ensures, c.in-Bare.is)
    (picture_on _ c.args.hand _ items view _ _ _ _ _ _ refl
    (ap viewed_in (rw c.from.ensures at c.index_mut-view.ensures.value)
    ∙ sym (viewed_at items c.args.hand _ view c.requires.viewer)) c.is_shown.ensures margin.over
    margin.line (rw margin.hand at on.painting) on.printable on.view)

pub returns-in-Scanned-clause-painted : goal.returns-in-Scanned-clause-painted
returns-in-Scanned-clause-painted g c =
    let view = c.index_mut-view.result.now in
    let items = c.args.live.now.views.items in
    let margin = c.margin_of-margin.ensures in
    let on = c.paint_on-in-Scanned.ensures in
    rw (c.from.ensures, c.in-Scanned.is)
    (picture_on _ c.args.hand _ items view _ _ _ _ _ _ refl
    (ap viewed_in (rw c.from.ensures at c.index_mut-view.ensures.value)
    ∙ sym (viewed_at items c.args.hand _ view c.requires.viewer)) c.is_shown.ensures margin.over
    margin.line (rw margin.hand at on.painting) on.printable on.view)

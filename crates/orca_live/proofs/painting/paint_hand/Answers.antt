use Rattle.std.proofs.Common.{◌∙◌, List, ap, length, sym}
use Rattle.orca_course.specs.Worlds.{owing}
use Rattle.orca_term.specs.Viewing.{Seen}
use Rattle.orca_live.specs.Marking.{marks_by}
use Rattle.orca_live.specs.States.{live_state, residue_of}
use Rattle.orca_live.proofs.DoneLemmas.{not_here, not_viewer, painted_did, painted_for, unpainted_did, viewer_is, viewer_not}
use Rattle.orca_live.proofs.painting.paint_hand.Goals as goal

pub returns-clause-painted : goal.returns-clause-painted
returns-clause-painted g c =
    let live = c.args.live.now in
    let s = live_state g.M.Machine live in
    painted_did (marks_by c.args.marking (g.M.Look.marks live.stage.machine)) c.args.hand s
    (painted_for c.args.hand s
    (viewer_is live.views.items c.args.hand c.from.result (length c.as_slice.result.now) c.from.ensures
    (ap (λ (views : List Seen). length views) c.as_slice.ensures.value) c.if-from-as_slice.false)
    (sym c.is_away.ensures ∙ c.if-is_away.false))
    c.paint_view.ensures.painted

pub returns-then-from-as_slice-clause-painted : goal.returns-then-from-as_slice-clause-painted
returns-then-from-as_slice-clause-painted g c =
    let live = c.args.live.now in
    let s = live_state g.M.Machine live in
    unpainted_did (marks_by c.args.marking (g.M.Look.marks live.stage.machine)) c.args.hand s
    (owing (residue_of g.M.Machine live) c.args.desk.now)
    (not_viewer c.args.hand s
    (viewer_not live.views.items c.args.hand c.from.result (length c.as_slice.result.now)
    c.from.ensures (ap (λ (views : List Seen). length views) c.as_slice.ensures.value)
    c.if-from-as_slice.true))

pub returns-then-is_away-clause-painted : goal.returns-then-is_away-clause-painted
returns-then-is_away-clause-painted g c =
    let live = c.args.live.now in
    let s = live_state g.M.Machine live in
    unpainted_did (marks_by c.args.marking (g.M.Look.marks live.stage.machine)) c.args.hand s
    (owing (residue_of g.M.Machine live) c.args.desk.now)
    (not_here c.args.hand s (sym c.is_away.ensures ∙ c.if-is_away.true))

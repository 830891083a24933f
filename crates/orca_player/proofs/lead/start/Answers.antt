use Rattle.std.proofs.Common.{◌∙◌, ap}
use Rattle.orca_clock.specs.Deaf.{lead_is_deaf}
use Rattle.orca_course.specs.Standings.{notes_of}
use Rattle.orca_player.specs.Outlines.{lead_outline, lead_start}
use Rattle.orca_player.proofs.CourseLemmas.{lead_from, notes-standing_at, performed_none}
use Rattle.orca_reports.specs.Manners.{state_manner}
use Rattle.orca_player.proofs.lead.start.Goals as goal

pub lead_all-requires-clause-begins : goal.lead_all-requires-clause-begins
lead_all-requires-clause-begins g c =
    let opening = c.args.opening.now in
    ap (λ s. notes_of s.concert.standing) c.start-lead.ensures.state
    ∙ (ap notes_of c.in-Ok.ensures.standing
    ∙ notes-standing_at opening.grid opening.seed opening.limit)

pub returns-in-Ok : goal.returns-in-Ok
returns-in-Ok g c =
    lead_from _ _ _ _
    (c.start-lead.ensures.state ∙ ap (lead_start c.args.bpm c.args.at) c.in-Ok.ensures.standing)
    c.lead_all.ensures

pub returns-in-Err : goal.returns-in-Err
unfolding lead_outline
returns-in-Err g c = performed_none _ (lead_is_deaf state_manner) _ _ _

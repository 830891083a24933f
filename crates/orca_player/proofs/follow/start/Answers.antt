use Rattle.std.proofs.Common.{◌∙◌, ap}
use Rattle.orca_clock.specs.Deaf.{follow_is_deaf}
use Rattle.orca_course.specs.Standings.{notes_of}
use Rattle.orca_player.specs.Outlines.{follow_outline, follow_start}
use Rattle.orca_player.proofs.CourseLemmas.{follow_from, notes-standing_at, performed_none}
use Rattle.orca_reports.specs.Manners.{state_manner}
use Rattle.orca_player.proofs.follow.start.Goals as goal

pub follow_all-requires-clause-begins : goal.follow_all-requires-clause-begins
follow_all-requires-clause-begins g c =
    let opening = c.args.opening.now in
    ap (λ s. notes_of s.concert.standing) c.start-follow.ensures.state
    ∙ (ap notes_of c.in-Ok.ensures.standing
    ∙ notes-standing_at opening.grid opening.seed opening.limit)

pub returns-in-Ok : goal.returns-in-Ok
returns-in-Ok g c =
    follow_from _ _ (c.start-follow.ensures.state ∙ ap follow_start c.in-Ok.ensures.standing)
    c.follow_all.ensures

pub returns-in-Err : goal.returns-in-Err
unfolding follow_outline
returns-in-Err g c = performed_none _ (follow_is_deaf state_manner) _ _ _

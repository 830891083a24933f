use Rattle.std.proofs.Common.{◌∙◌, ap}
use Rattle.orca_course.specs.Standings.{notes_of}
use Rattle.orca_player.proofs.CourseLemmas.{notes-standing_at}
use Rattle.orca_player.proofs.concert.concert.Goals as goal

pub do_all-requires-clause-begins : goal.do_all-requires-clause-begins
do_all-requires-clause-begins g c =
    let opening = c.args.opening.now in
    ap notes_of c.in-Ok.ensures.standing
    ∙ notes-standing_at opening.grid opening.seed opening.limit

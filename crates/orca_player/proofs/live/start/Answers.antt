use Rattle.std.proofs.Common.{◌∙◌, ap}
use Rattle.orca_course.specs.Standings.{notes_of}
use Rattle.orca_player.specs.Outlines.{live_outline}
use Rattle.orca_player.proofs.CourseLemmas.{live_from, live_none, notes-standing_at, seated_start}
use Rattle.orca_words.specs.RequestIn.{performance_in, setup_in}
use Rattle.orca_player.proofs.live.start.Goals as goal

pub play_all-requires-clause-begins : goal.play_all-requires-clause-begins
play_all-requires-clause-begins g c =
    let opening = c.args.opening.now in
    ap (λ s. notes_of s.standing) c.in-Ok.ensures.state
    ∙ notes-standing_at opening.grid opening.seed opening.limit

pub play_all-requires-clause-seated : goal.play_all-requires-clause-seated
play_all-requires-clause-seated g c =
    let performance = c.args.performance.now in
    seated_start (setup_in c.args.setup.now) (performance_in performance) _ _ c.args.desk.now
    (λ count is. (performance.hands_in_range count is).0) c.in-Ok.ensures.state c.requires.seated

pub returns-in-Ok : goal.returns-in-Ok
returns-in-Ok g c =
    live_from _ (performance_in c.args.performance.now) _ _ _ c.in-Ok.ensures.state
    (rw c.room_name.ensures at c.play_all.ensures)

pub returns-in-Err : goal.returns-in-Err
unfolding live_outline
returns-in-Err g c =
    let performance = c.args.performance.now in
    live_none _ _ _ (record {
      rows = performance.rows_in_range.0;
      few_rows = performance.rows_in_range.1;
      columns = performance.cols_in_range.0;
      few_columns = performance.cols_in_range.1;
    })

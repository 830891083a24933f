use Rattle.std.proofs.Common.{false, refl}
use Rattle.std.specs.Prelude.{Some}
use Rattle.orca_player.specs.Outlines.{leavings, live_outline, room_name, standing_at, waiting}
use Rattle.orca_player.proofs.CameLemmas.{by_after, came_by_hands, kind_of, listened}
use Rattle.orca_course.proofs.SeatLemmas.{seated_made}
use Rattle.orca_player.proofs.live.wait.Goals as goal
use Rattle.orca_words.specs.RequestIn.{performance_in, setup_in}

pub returns-in-Ok : goal.returns-in-Ok
unfolding waiting live_outline
returns-in-Ok g c =
    let opening = c.args.opening.now in
    let performance = c.args.performance.now in
    came_by_hands (λ b. leavings (room_name (performance_in performance)) b.closing false)
    performance.address.now
    (λ b. live_outline (setup_in c.args.setup.now) (performance_in performance) b
    (standing_at opening.grid opening.seed opening.limit))
    c.unwrap_or-hands.ensures
    (by_after (record c.start.ensures.brought { start = Some _ })
    (listened c.in-Ok.ensures.listened) (kind_of c.start.ensures) c.start.ensures.came refl)

pub start-requires-clause-seated : goal.start-requires-clause-seated
start-requires-clause-seated g c =
    rw (← c.unwrap_or-hands.ensures)
    (seated_made c.in-Ok.ensures.listened.0 c.in-Ok.ensures.listened.1)

pub returns-in-Err : goal.returns-in-Err
returns-in-Err g c =
    let opening = c.args.opening.now in
    let performance = c.args.performance.now in
    came_by_hands (λ b. leavings (room_name (performance_in performance)) b.closing false)
    performance.address.now
    (λ b. live_outline (setup_in c.args.setup.now) (performance_in performance) b
    (standing_at opening.grid opening.seed opening.limit))
    c.unwrap_or-hands.ensures (rw c.room_name.ensures at
    (c.in-Err.ensures.ends (λ b. live_outline (setup_in c.args.setup.now) (performance_in performance)
    b (standing_at opening.grid opening.seed opening.limit))))

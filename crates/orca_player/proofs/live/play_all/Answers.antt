use Rattle.orca_player.proofs.CourseLemmas.{played_by}
use Rattle.orca_player.proofs.live.play_all.Goals as goal

pub returns : goal.returns
returns g c =
    played_by _ c.perform_and_leave-status.ensures c.requires.sized
    (rw (c.given.ensures, c.seed-seed.ensures) at c.read_back.ensures)

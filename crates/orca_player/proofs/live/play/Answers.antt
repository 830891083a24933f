use Rattle.orca_player.specs.Outlines.{roomed}
use Rattle.orca_player.proofs.live.play.Goals as goal

pub returns-in-None : goal.returns-in-None
unfolding roomed
returns-in-None g c =
    rw (← c.room_name.ensures, c.in-None.is)
    (rw (← c.room_name.ensures, c.in-None.is) at c.wait.ensures)

pub returns-in-Some : goal.returns-in-Some
returns-in-Some g c =
    rw (← c.room_name.ensures, c.in-Some.is)
    (rw (← c.room_name.ensures, c.in-Some.is) at c.play_in.ensures)

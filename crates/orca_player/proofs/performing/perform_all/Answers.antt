use Rattle.orca_player.proofs.CourseLemmas.{broke_whole, lasted_whole}
use Rattle.orca_player.proofs.performing.perform_all.Goals as goal

pub returns-in-Ok : goal.returns-in-Ok
returns-in-Ok g c =
    rw (c.settled.ensures, c.status_of_ending.ensures)
    (lasted_whole _ c.requires.begins c.requires.residue c.requires.silent c.in-Ok.ensures.lasted)

pub returns-in-Err : goal.returns-in-Err
returns-in-Err g c = broke_whole c.in-Err.ensures.broke

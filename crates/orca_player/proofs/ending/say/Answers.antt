use Rattle.std.proofs.Common.{ap}
use Rattle.std.specs.Prelude.{Err}
use Rattle.orca_player.proofs.EndLemmas.{said_line, said_unsent}
use Rattle.orca_player.proofs.ending.say.Goals as goal

pub returns-in-Ok : goal.returns-in-Ok
returns-in-Ok g c = said_line _ _ c.requires.some c.requires.line c.in-Ok.ensures.called

pub returns-in-Err : goal.returns-in-Err
returns-in-Err g c =
    said_unsent _ _ c.requires.some c.requires.line c.in-Err.ensures.called
    (λ is. c.in-Err.ensures.in_send (ap Err is))

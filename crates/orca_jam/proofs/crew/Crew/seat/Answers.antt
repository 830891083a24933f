use Rattle.std.proofs.Common.{length, arith, ap}
use Rattle.orca_jam.specs.Crews.{CrewState}
use Rattle.orca_jam.proofs.Seats.{seated}
use Rattle.orca_jam.proofs.crew.Crew.seat.Goals as goal

pub returns : goal.returns
returns c =
    rw (← c.self.view_is)
    (seated c.self.inside c.args.hand c.args.player c.self.invariant
    (omega (arith, c.requires, ap (λ (s : CrewState). length s.players) c.self.view_is)))

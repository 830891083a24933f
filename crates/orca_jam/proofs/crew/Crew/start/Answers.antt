use Rattle.orca_jam.proofs.Seats.{started}
use Rattle.orca_jam.proofs.crew.Crew.start.Goals as goal

pub returns : goal.returns
returns c =
    started c.args.full c.args.views c.args.hands c.args.limit c.in_ok-with_capacity.field-0.items c.start.result
    c.start.ensures c.in_ok-with_capacity.ensures.items c.requires.few_hands

use Rattle.orca_wav.proofs.Increments.{increment-shift, increment-lt}
use Rattle.orca_wav.proofs.pitch.increment_of.Goals as goal

pub returns-clause-increment : goal.returns-clause-increment
returns-clause-increment c = rw c.from.ensures (increment-shift c.args.key c.requires)

pub returns-clause-short : goal.returns-clause-short
returns-clause-short c =
    rw (c.from.ensures, increment-shift c.args.key c.requires) (increment-lt c.args.key c.requires)

use Rattle.orca_live.proofs.OwningLaw.{starts_with_owners}
use Rattle.orca_live.proofs.laws.hands_law.Goals as goal

pub returns-clause-starts : goal.returns-clause-starts
returns-clause-starts c = λ set hands room at begins none fits.
    starts_with_owners set hands room at begins none fits

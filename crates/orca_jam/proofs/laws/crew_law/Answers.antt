use Rattle.orca_jam.proofs.LeaderLaws.{leader_is_free, leader_stays_free}
use Rattle.orca_jam.proofs.OwnerLaws.{keeps_owners, retract_spares, undo_spares}
use Rattle.orca_jam.proofs.laws.crew_law.Goals as goal

pub returns-clause-owners : goal.returns-clause-owners
returns-clause-owners c = keeps_owners

pub returns-clause-spares : goal.returns-clause-spares
returns-clause-spares c = undo_spares

pub returns-clause-free : goal.returns-clause-free
returns-clause-free c = leader_is_free

pub returns-clause-stays : goal.returns-clause-stays
returns-clause-stays c = leader_stays_free

pub returns-clause-retracts : goal.returns-clause-retracts
returns-clause-retracts c = retract_spares

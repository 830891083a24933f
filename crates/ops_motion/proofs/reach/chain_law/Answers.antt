use Rattle.orca_base.specs.Grids.{above, down, left, right}
use Rattle.ops_motion.proofs.ReachLemmas.{hands_on, marks_its_source}
use Rattle.ops_motion.proofs.reach.chain_law.Goals as goal

pub returns-clause-jumper : goal.returns-clause-jumper
returns-clause-jumper c = λ g s at now. hands_on g s (above at) (down at)

pub returns-clause-endless_jumper : goal.returns-clause-endless_jumper
returns-clause-endless_jumper c = λ g s at now. marks_its_source g s (above at) (down at)

pub returns-clause-jymper : goal.returns-clause-jymper
returns-clause-jymper c = λ g s at now. hands_on g s (left at 1) (right at)

pub returns-clause-endless_jymper : goal.returns-clause-endless_jymper
returns-clause-endless_jymper c = λ g s at now. marks_its_source g s (left at 1) (right at)

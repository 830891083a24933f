use Rattle.ops_motion.proofs.ReachLemmas.{comment_locks, comment_locks_alone}
use Rattle.ops_motion.proofs.reach.comment_law.Goals as goal

pub returns-clause-locks : goal.returns-clause-locks
returns-clause-locks c = λ g s at now. comment_locks s at

pub returns-clause-alone : goal.returns-clause-alone
returns-clause-alone c = λ g s at now. comment_locks_alone s at

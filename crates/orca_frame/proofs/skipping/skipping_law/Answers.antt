use Rattle.orca_frame.proofs.SkipLemmas.{state-skip}
use Rattle.orca_frame.proofs.skipping.skipping_law.Goals as goal

pub returns : goal.returns
returns c = state-skip

use Rattle.orca_frame.proofs.RestLemmas.{at_rest}
use Rattle.orca_frame.proofs.skipping.rest_law.Goals as goal

pub returns : goal.returns
returns c = at_rest

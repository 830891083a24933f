use Rattle.std.proofs.Common.{arith}
use Rattle.orca_cues.proofs.Either.{script2_any}
use Rattle.orca_cues.proofs.script.check_script2.Goals as goal

pub returns-clause-any : goal.returns-clause-any
returns-clause-any c = grind (arith, script2_any, c.check_by.ensures.ok)

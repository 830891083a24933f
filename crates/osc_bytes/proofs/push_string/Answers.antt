use Rattle.std.proofs.Common.{append_assoc}
use Rattle.osc_bytes.specs.OscBytes.{osc_string}
use Rattle.osc_bytes.proofs.ZeroBytes.{zeros_after-remainder}
use Rattle.osc_bytes.proofs.push_string.Goals as goal

-- the zero bytes that the code adds are those of the standard
pub returns-clause-string : goal.returns-clause-string
unfolding osc_string
returns-clause-string c =
    rw (zeros_after-remainder, c.push_zeros.ensures, c.extend.ensures, append_assoc)

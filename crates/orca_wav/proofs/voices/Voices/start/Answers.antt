use Rattle.orca_wav.proofs.Bands.{IsBand-nil}
use Rattle.orca_wav.proofs.Runs.{Renders-none}
use Rattle.orca_wav.proofs.voices.Voices.start.Goals as goal

-- no tones are a band
pub invariant_of-result : goal.invariant_of-result
invariant_of-result c =
    (rw c.in_ok-tones.ensures.items (IsBand-nil 0), c.in_ok-tones.ensures.capacity)

pub returns-clause-run : goal.returns-clause-run
returns-clause-run c = rw c.in_ok-tones.ensures.items Renders-none

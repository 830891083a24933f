use Rattle.orca_smf.proofs.Tunes.{one_tune}
use Rattle.orca_smf.proofs.laws.song_law.Goals as goal

pub returns : goal.returns
returns c = one_tune

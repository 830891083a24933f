use Rattle.orca_live.proofs.SeatLemmas.{there_stepped}
use Rattle.orca_live.proofs.painting.show.Goals as goal

pub paint-requires : goal.paint-requires
paint-requires g c = there_stepped _ c.preview.ensures.made c.preview.ensures.sated c.requires

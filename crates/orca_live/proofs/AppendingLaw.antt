-- More answers only add acts.
use Rattle.orca_course.proofs.PerformanceLemmas.{begun_adds}
use Rattle.orca_live.specs.Laws.{OnlyAppends}
use Rattle.orca_live.specs.Performing.{live_part}

pub only_appends : OnlyAppends
only_appends opening heard more s =
    let adds = begun_adds live_part opening heard more s in record { tail = adds.0; acts = adds.1 }

-- The ring of the patches that are kept.
use Rattle.std.specs.Prelude.{◌≡◌, true}
use Rattle.std.specs.List.{sum}
use Rattle.orca_base.specs.declared.limits.TheConstants.{KEPT_PATCHES}
use Rattle.orca_base.specs.Histories.{few_touched}
use Rattle.orca_history.specs.declared.ring.Ring.TheInside.{Inside}
use Rattle.orca_history.specs.Trails.{touched_of}

-- it holds no more than KEPT_PATCHES, it knows how many cells their entries touched together, and
-- they may be kept together
pub record IsRing (r : Inside) : Type 0 where
  pub room : r.kept.capacity ≡ KEPT_PATCHES
  pub sum : r.touched ≡ sum (touched_of r.kept.items)
  pub few : few_touched (touched_of r.kept.items) ≡ true

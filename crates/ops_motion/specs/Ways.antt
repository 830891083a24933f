-- The two ways of a chain.
use Rattle.std.specs.Prelude.{ℕ}
use Rattle.orca_base.specs.declared.place.Place.{Place}
use Rattle.orca_base.specs.declared.place.Spot.{Spot}
use Rattle.orca_base.specs.Grids.{above, down, left, right}
use Rattle.ops_motion.specs.declared.way.Way.{Way}
use Rattle.ops_motion.specs.declared.way.Way.TheVariants.{Down, Right}

-- the spot whose glyph is handed on by a chain that begins at a place
abbrev pub source_on : Way → Place → Spot
source_on Down at = above at
source_on Right at = left at 1

-- the spot n places beyond a place
abbrev pub beyond_on : Way → Place → ℕ → Spot
beyond_on Down at n = down at n
beyond_on Right at n = right at n

-- What a contract sees of checkpoints.
use Rattle.std.specs.Prelude.{◌≡◌, ◌≤◌, length, take}
use Rattle.orca_base.specs.declared.limits.TheConstants.{MAX_CHECKPOINTS}
use Rattle.orca_checkpoints.specs.declared.checkpoints.Checkpoints.TheInside.{Inside}
use Rattle.orca_checkpoints.specs.Points.{Points, ArePoints}

-- the first slots are in use
abbrev pub points_of : Inside → Points
points_of c = record { spacing = c.spacing; kept = take c.count c.slots.items }

-- there is a slot for each checkpoint that there may be
pub record AreCheckpoints (c : Inside) : Type 0 where
  pub room : length c.slots.items ≡ MAX_CHECKPOINTS
  pub few : c.count ≤ MAX_CHECKPOINTS
  pub points : ArePoints (points_of c)

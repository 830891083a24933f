-- What the ports were given, and the names that they were attached to.
use Rattle.std.specs.Prelude.{ℕ, List}
use Rattle.orca_base.specs.declared.port.Port.{Port}

-- a port that was attached to a name
pub record Attached : Type 0 where
  pub port : Port
  pub name : List ℕ

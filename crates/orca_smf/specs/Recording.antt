-- A track that grows, as a contract sees it.
use Rattle.std.specs.Prelude.{ℕ, List}
use Rattle.orca_smf.specs.declared.timed.Timed.{Timed}

-- the tempo, and the messages so far with their ticks
pub record Recorded : Type 0 where
  pub tempo : ℕ
  pub list : List Timed

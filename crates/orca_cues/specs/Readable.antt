-- Lines that a script may read.
use Rattle.std.specs.Prelude.{ℕ, ◌+◌, ◌≤◌, All, List, length}
use Rattle.orca_base.specs.declared.limits.TheConstants.{MAX_FILE_BYTES}

-- the lines, and those before them, are no more than the bytes of a file, and none is longer
pub record AreReadable (before : ℕ) (left : List (List ℕ)) : Type 0 where
  pub few : before + length left ≤ MAX_FILE_BYTES
  pub short : All (λ line. length line ≤ MAX_FILE_BYTES) left

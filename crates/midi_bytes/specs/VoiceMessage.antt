-- How a receiver finds the messages among the bytes.
use Rattle.std.specs.Prelude.{ℕ, ◌≡◌, ◌≤◌, ◌<◌, List, length, slice_index}
use Rattle.orca_base.specs.declared.limits.TheConstants.{MAX_DATA}

-- A receiver finds the beginning of a message by its first byte, which alone has its high bit set.
-- A first byte from 240 on would begin a system message.
pub record IsVoiceMessage (bytes : List ℕ) : Type 0 where
  pub three : length bytes ≡ 3
  pub first : MAX_DATA < slice_index bytes 0
  pub no_system : slice_index bytes 0 < 240
  pub second : slice_index bytes 1 ≤ MAX_DATA
  pub third : slice_index bytes 2 ≤ MAX_DATA

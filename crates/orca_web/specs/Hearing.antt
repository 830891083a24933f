-- What is heard of the bytes that come.
use Rattle.std.specs.Prelude.{◌≡◌, ℕ, List, [], ◌++◌, take, All, Result, Ok, Err}
use Rattle.std.specs.List.{flat_map}
use Rattle.orca_web.specs.declared.incoming.Incoming.{Incoming}
use Rattle.orca_web.specs.Frames.{Frame, IsHeardFrame, frame_bytes, keys_in}

-- the bytes that waited and those that came are frames, and then the bytes that wait now; the keys
-- that waited and those of the frames are the keys that were given, and then those that wait now
pub record Hears (old new : Incoming) (came given : List ℕ) : Type 0 where
  pub frames : List Frame
  pub heard : All IsHeardFrame frames
  pub bytes : old.input ++ came ≡ flat_map frame_bytes frames ++ new.input
  pub keys : old.keys ++ flat_map keys_in frames ≡ given ++ new.keys

-- the bytes that a read gave
abbrev pub given_bytes : {E : Type 0} → Result ℕ E → List ℕ → List ℕ
given_bytes (Ok count) bytes = take count bytes
given_bytes (Err error) bytes = []

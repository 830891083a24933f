-- The limits with their numbers, so that none changes unseen.
use Rattle.std.specs.Prelude.{◌≡◌, ◌*◌, refl}
use Rattle.orca_base.specs.declared.limits.TheConstants.{BEAT_FRAMES}
use Rattle.orca_sync.specs.declared.limits.TheConstants.{BEAT_CLOCKS, FRAME_CLOCKS}

clocks_of_a_beat : BEAT_CLOCKS ≡ 24
clocks_of_a_beat = refl

clocks_of_a_frame : FRAME_CLOCKS ≡ 6
clocks_of_a_frame = refl

-- a beat has as many clocks as its frames
clocks_of_frames : FRAME_CLOCKS * BEAT_FRAMES ≡ BEAT_CLOCKS
clocks_of_frames = refl

-- What the bytes of a clock ask of a follower. A frame has six clocks, and the first one plays it.
use Rattle.std.specs.Prelude.{ℕ, ◌+◌, ◌%◌, Bool, true, false, ◌==◌, if◌then◌else◌, List, [], ◌∷◌, ◌++◌}
use Rattle.orca_sync.specs.declared.follower.Beat.{Beat}
use Rattle.orca_sync.specs.declared.follower.Beat.TheVariants.{Nothing, Frame, Restart}
use Rattle.orca_sync.specs.declared.limits.TheConstants.{FRAME_CLOCKS}
use Rattle.orca_sync.specs.RealTime.{timing_clock, start, continue, stop}

-- whether a clock runs, and how many clocks of the present frame have come
pub record Pulse : Type 0 where
  pub runs : Bool
  pub count : ℕ

-- one that nothing has started so far
abbrev pub stopped : Pulse
stopped = record { runs = false; count = 0 }

-- one that runs, and has come to this clock of a frame
abbrev pub running : ℕ → Pulse
running count = record { runs = true; count = count }

-- whether the next clock is the first of a frame
abbrev pub is_first : ℕ → Bool
is_first count = count % FRAME_CLOCKS == 0

-- one clock more
abbrev pub counted : ℕ → ℕ
counted count = (count + 1) % FRAME_CLOCKS

-- what a byte asks for, and the pulse after it
pub record Heeded : Type 0 where
  pub beat : Beat
  pub pulse : Pulse

abbrev pub heeded : Beat → Pulse → Heeded
heeded beat pulse = record { beat = beat; pulse = pulse }

-- a clock counts while it runs, and the first of each frame plays it
abbrev pub clocked : Pulse → Heeded
clocked p =
    if p.runs
    then heeded (if is_first p.count then Frame else Nothing) (record p { count = counted p.count })
    else heeded Nothing p

-- a start begins anew, a continue goes on, and a stop stops; all other bytes are dropped, wherever
-- they stand
unfoldable pub heed : Pulse → ℕ → Heeded
heed p byte =
    if byte == start then heeded Restart (running 0)
    else (if byte == continue then heeded Nothing (record p { runs = true })
    else (if byte == stop then heeded Nothing (record p { runs = false })
    else (if byte == timing_clock then clocked p else heeded Nothing p)))

-- a beat at which something happens
abbrev pub beat_in : Beat → List Beat
beat_in Nothing = []
beat_in beat = beat ∷ []

-- the beats of these bytes
unfoldable pub beats_from : Pulse → List ℕ → List Beat
beats_from p [] = []
beats_from p (byte ∷ bytes) = beat_in (heed p byte).beat ++ beats_from (heed p byte).pulse bytes

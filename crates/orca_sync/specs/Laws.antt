-- What the bytes of a clock ask for, however many come.
use Rattle.std.specs.Prelude.{ℕ, ◌≡◌, ◌+◌, ◌-◌, ◌/◌, true, List, [], ◌∷◌, ◌++◌, IfSome, filter, replicate}
use Rattle.orca_base.specs.MidiBytes.{midi_bytes_of}
use Rattle.orca_base.specs.Ranges.{HasDataInRange}
use Rattle.orca_base.specs.declared.message.Message.{Message}
use Rattle.orca_sync.specs.Clocks.{Pulse, running, beats_from}
use Rattle.orca_sync.specs.RealTime.{timing_clock, continue, stop, is_clock}
use Rattle.orca_sync.specs.declared.follower.Beat.TheVariants.{Frame}
use Rattle.orca_sync.specs.declared.limits.TheConstants.{FRAME_CLOCKS}

-- bytes that are no clock change nothing, wherever they stand
abbrev pub OthersDrop : Type 0
OthersDrop =
    (p : Pulse) (bytes : List ℕ)
    → beats_from p (filter is_clock bytes) ≡ beats_from p bytes

-- how many frames begin in so many clocks
abbrev pub frames_in : ℕ → ℕ
frames_in clocks = (clocks + (FRAME_CLOCKS - 1)) / FRAME_CLOCKS

-- of so many clocks, every sixth plays a frame: after a start from the first one on
abbrev pub EverySixth : Type 0
EverySixth =
    (count clocks : ℕ) → beats_from (running count) (replicate clocks timing_clock)
    ≡ replicate (frames_in (count + clocks) - frames_in count) Frame

-- a pause changes nothing, however many clocks come in it
abbrev pub PausesKeepCount : Type 0
PausesKeepCount =
    (p : Pulse) (clocks : ℕ) (bytes : List ℕ) → p.runs ≡ true
    → beats_from p (stop ∷ replicate clocks timing_clock ++ continue ∷ bytes) ≡ beats_from p bytes

-- no byte of a message of a frame is a clock: a status byte is at most EF, and data at most 7F
abbrev pub VoicesAreNoClock : Type 0
VoicesAreNoClock =
    (m : Message) → HasDataInRange m
    → IfSome (midi_bytes_of m) (λ bytes. filter is_clock bytes ≡ [])

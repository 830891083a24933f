-- A leader, and a follower that heeds all that it gives.
use Rattle.std.specs.Prelude.{ℕ, ◌≡◌, true, if◌then◌else◌, List, [], ◌∷◌, ◌++◌, filter}
use Rattle.orca_sync.specs.Clocks.{Pulse, beat_in, beats_from}
use Rattle.orca_sync.specs.Leading.{Metronome, metronome_from, clocked_at, plays, toggle_byte, toggled_at}
use Rattle.orca_sync.specs.RealTime.{is_clock, start, stop, timing_clock}
use Rattle.orca_sync.specs.declared.follower.Beat.{Beat}
use Rattle.orca_sync.specs.declared.follower.Beat.TheVariants.{Nothing, Frame, Restart}

-- what is done with a leader: a clock is given at a moment, and the bytes of messages after it; or
-- it pauses or goes on at a moment
pub data Move : Type 0 where
  Clock : (at : ℕ) → (messages : List ℕ) → Move
  Toggle : (at : ℕ) → Move

-- a clock is given while it runs, and there is none among the bytes of the messages
abbrev pub MayMove : Metronome → Move → Type 0
MayMove m (Clock at messages) = (m.pulse.runs ≡ true) × (filter is_clock messages ≡ [])
MayMove m (Toggle at) = Unit {0}

-- the leader after it
abbrev pub moved_by : Metronome → Move → Metronome
moved_by m (Clock at messages) = clocked_at at m
moved_by m (Toggle at) = toggled_at at m

-- the bytes that it gives
abbrev pub bytes_of_move : Metronome → Move → List ℕ
bytes_of_move m (Clock at messages) = timing_clock ∷ messages
bytes_of_move m (Toggle at) = toggle_byte m ∷ []

-- whether it plays a frame
abbrev pub beat_of : Metronome → Move → Beat
beat_of m (Clock at messages) = if plays m then Frame else Nothing
beat_of m (Toggle at) = Nothing

-- the same of one after another

abbrev pub AreMoves : Metronome → List Move → Type 0
AreMoves m [] = Unit {0}
AreMoves m (move ∷ moves) = MayMove m move × AreMoves (moved_by m move) moves

abbrev pub bytes_in : Metronome → List Move → List ℕ
bytes_in m [] = []
bytes_in m (move ∷ moves) = bytes_of_move m move ++ bytes_in (moved_by m move) moves

abbrev pub beats_in : Metronome → List Move → List Beat
beats_in m [] = []
beats_in m (move ∷ moves) = beat_in (beat_of m move) ++ beats_in (moved_by m move) moves

-- whatever a follower has heard before, from the leader's start to its stop it begins anew and then
-- plays the leader's frames, and no others
abbrev pub LeadsFollower : Type 0
LeadsFollower =
    (p : Pulse) (bpm at : ℕ) (moves : List Move) → AreMoves (metronome_from bpm at) moves
    → beats_from p (start ∷ bytes_in (metronome_from bpm at) moves ++ stop ∷ [])
    ≡ Restart ∷ beats_in (metronome_from bpm at) moves

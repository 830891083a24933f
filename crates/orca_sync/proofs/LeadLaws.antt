-- A follower that heeds all that a leader gives.
use Rattle.std.proofs.Common.{◌≡◌, ℕ, Bool, true, false, List, [], ◌∷◌, ◌++◌, refl, ap, sym, ◌∙◌, append_assoc}
use Rattle.std.specs.Prelude.{if◌then◌else◌}
use Rattle.std.specs.List.{filter}
use Rattle.std.proofs.lemmas.List.Elements.{filter-append}
use Rattle.orca_sync.specs.Clocks.{Pulse, is_first, counted, heed, heeded, beat_in, beats_from}
use Rattle.orca_sync.specs.Leading.{Metronome, metronome_from, toggled_at, toggle_byte}
use Rattle.orca_sync.specs.RealTime.{is_clock, stop, timing_clock}
use Rattle.orca_sync.specs.Together.{Move, MayMove, moved_by, bytes_of_move, beat_of, AreMoves, bytes_in, beats_in, LeadsFollower}
use Rattle.orca_sync.specs.Together.Move.{Clock, Toggle}
use Rattle.orca_sync.specs.declared.follower.Beat.TheVariants.{Nothing, Frame, Restart}
use Rattle.orca_sync.proofs.ClockLaws.{others_drop}

-- bytes without a clock among them are dropped
pub drops : (p : Pulse) (xs ys : List ℕ) → filter is_clock xs ≡ []
    → beats_from p (xs ++ ys) ≡ beats_from p ys
drops p xs ys none =
    sym (others_drop p (xs ++ ys)) ∙ rw (filter-append is_clock xs ys, none) (others_drop p ys)

-- a clock, while it runs
clock_heeded : (p : Pulse) → p.runs ≡ true
    → heed p timing_clock
    ≡ heeded (if is_first p.count then Frame else Nothing) (record p { count = counted p.count })
unfolding heed
clock_heeded p runs = rw runs refl

toggle_if : (m : Metronome) (at : ℕ) (runs : Bool) → m.pulse.runs ≡ runs
    → heed m.pulse (toggle_byte m) ≡ heeded Nothing (toggled_at at m).pulse
unfolding heed
toggle_if m at true is = rw is refl
toggle_if m at false is = rw is refl

-- a move, and what comes after it
pub step : (m : Metronome) (move : Move) (rest : List ℕ) → MayMove m move
    → beats_from m.pulse (bytes_of_move m move ++ rest)
    ≡ beat_in (beat_of m move) ++ beats_from (moved_by m move).pulse rest
unfolding beats_from
step m (Clock at messages) rest may =
    rw (clock_heeded m.pulse may.0)
    (ap (λ beats. beat_in (beat_of m (Clock at messages)) ++ beats)
    (drops (moved_by m (Clock at messages)).pulse messages rest may.1))
step m (Toggle at) rest may = rw (toggle_if m at m.pulse.runs refl) refl

-- all of them, and the stop
steps : (m : Metronome) (moves : List Move) → AreMoves m moves
    → beats_from m.pulse (bytes_in m moves ++ stop ∷ []) ≡ beats_in m moves
unfolding heed beats_from
steps m [] may = refl
steps m (move ∷ moves) may =
    rw append_assoc
    (step m move (bytes_in (moved_by m move) moves ++ stop ∷ []) may.0
    ∙ ap (λ beats. beat_in (beat_of m move) ++ beats) (steps (moved_by m move) moves may.1))

pub leads_follower : LeadsFollower
unfolding heed beats_from
leads_follower p bpm at moves may =
    ap (λ beats. Restart ∷ beats) (steps (metronome_from bpm at) moves may)

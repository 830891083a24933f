-- A leader, which gives a clock: when each clock is due, and which bytes are given.
use Rattle.std.specs.Prelude.{ℕ, Bool, true, false, Option, Some, None, if◌then◌else◌}
use Rattle.orca_sync.specs.Clocks.{Pulse, running, counted, is_first}
use Rattle.orca_sync.specs.RealTime.{continue, stop}
use Rattle.orca_sync.specs.declared.limits.TheConstants.{BEAT_CLOCKS}
use Rattle.orca_term.specs.Pacing.{Pace, parts_from, due_after}

-- what a leader goes by: its pace, and its pulse, which is that of a follower that heeds each of
-- its bytes. While it doesn't run it is paused, and no clock is due
pub record Metronome : Type 0 where
  pub pace : Pace
  pub pulse : Pulse

-- the pace of clocks that starts at a moment
abbrev pub clock_pace : ℕ → ℕ → Pace
clock_pace bpm at = parts_from BEAT_CLOCKS bpm at

-- that of a leader that starts at a moment
abbrev pub metronome_from : ℕ → ℕ → Metronome
metronome_from bpm at = record { pace = clock_pace bpm at; pulse = running 0 }

-- when the next clock is due
abbrev pub due_of : Metronome → Option ℕ
due_of m = if m.pulse.runs then Some m.pace.due else None

-- whether a frame follows the clock that is due, which is then the first of its clocks
abbrev pub plays : Metronome → Bool
plays m = is_first m.pulse.count

-- a clock was given at a moment
abbrev pub clocked_at : ℕ → Metronome → Metronome
clocked_at at m = record {
  pace = record m.pace { due = due_after m.pace at };
  pulse = record m.pulse { count = counted m.pulse.count };
}

-- the byte of a pause, or that of going on
abbrev pub toggle_byte : Metronome → ℕ
toggle_byte m = if m.pulse.runs then stop else continue

-- a pause, or going on at a moment with a new pace of the same tempo; the count stays
abbrev pub toggled_at : ℕ → Metronome → Metronome
toggled_at at m =
    if m.pulse.runs then record m { pulse = record m.pulse { runs = false } }
    else record { pace = clock_pace m.pace.bpm at; pulse = record m.pulse { runs = true } }

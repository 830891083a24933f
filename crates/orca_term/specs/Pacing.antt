-- The pacer: when the next part of a beat is due, in microseconds. A frame is such a part, and so
-- is a clock.
use Rattle.std.specs.Prelude.{ℕ, ◌+◌, ◌-◌, ◌*◌, ◌^◌, ◌/◌, max, min, nat_lt, if◌then◌else◌}
use Rattle.orca_base.specs.declared.limits.TheConstants.{BEAT_FRAMES, MAX_BPM, MINUTE_MICROSECONDS}

-- the tempo in beats a minute, the parts of a beat, and the moment at which the next part is due
pub record Pace : Type 0 where
  pub bpm : ℕ
  pub parts : ℕ
  pub due : ℕ

-- the interval of a part of a beat, rounded down
abbrev pub interval : ℕ → ℕ → ℕ
interval bpm parts = MINUTE_MICROSECONDS / (parts * bpm)

-- the interval of a pace
abbrev pub interval_of : Pace → ℕ
interval_of pace = interval pace.bpm pace.parts

-- an interval after a moment; the sum stops at the greatest moment
abbrev pub due_from : ℕ → ℕ → ℕ
due_from interval at = min (at + interval) (2 ^ 64 - 1)

-- a pace that starts at a moment, with so many parts to a beat
abbrev pub parts_from : ℕ → ℕ → ℕ → Pace
parts_from parts bpm at = record {
  bpm = bpm;
  parts = parts;
  due = due_from (interval bpm parts) at;
}

-- the pace of frames that starts at a moment
abbrev pub pace_from : ℕ → ℕ → Pace
pace_from bpm at = parts_from BEAT_FRAMES bpm at

-- so many beats more or less a minute
abbrev pub faster : ℕ → ℕ → ℕ
faster beats bpm = min (bpm + beats) MAX_BPM

abbrev pub slower : ℕ → ℕ → ℕ
slower beats bpm = max 1 (bpm - beats)

-- another tempo: the next part is due a new interval after the moment from which the old one was
-- counted
abbrev pub retimed : ℕ → Pace → Pace
retimed bpm pace = record {
  bpm = bpm;
  parts = pace.parts;
  due = due_from (interval bpm pace.parts) (pace.due - interval_of pace);
}

-- after a part that was played at a moment: an interval after the moment at which it was due, or,
-- where that isn't after `at`, an interval after `at`
abbrev pub due_after : Pace → ℕ → ℕ
due_after pace at =
    let next = due_from (interval_of pace) pace.due in
    if nat_lt at next then next else due_from (interval_of pace) at

-- Worked examples of the pacer, in microseconds.
use Rattle.std.specs.Prelude.{◌≡◌, refl}
use Rattle.orca_term.specs.Pacing.{interval, pace_from, parts_from, faster, slower, retimed, due_after}

-- ten beats more, 50,000 after the start: the frame is due a new interval after the start
sooner : retimed (faster 10 120) (pace_from 120 0) ≡ record { bpm = 130; parts = 4; due = 115384 }
sooner = refl

-- one beat less, two frames later: counted from the moment of the second one
later : retimed (slower 1 130) (record { bpm = 130; parts = 4; due = 346152 }) ≡ record {
  bpm = 129;
  parts = 4;
  due = 347047;
}
later = refl

-- the new moment has passed already: a frame at once, and then no burst
passed : retimed (faster 10 1) (pace_from 1 0) ≡ record { bpm = 11; parts = 4; due = 1363636 }
passed = refl

no_burst : due_after (retimed 11 (pace_from 1 0)) 14000000 ≡ 15363636
no_burst = refl

-- a tempo stays within its limits
slowest : slower 10 5 ≡ 1
slowest = refl

fastest : faster 10 995 ≡ 999
fastest = refl

-- the interval is that of the new tempo alone, however often it changes
to_and_fro : retimed 120 (retimed 999 (retimed 1 (pace_from 120 7))) ≡ pace_from 120 7
to_and_fro = refl

-- the 24 clocks of a beat
slow_clock : interval 1 24 ≡ 2500000
slow_clock = refl

fast_clock : interval 999 24 ≡ 2502
fast_clock = refl

clock : parts_from 24 120 0 ≡ record { bpm = 120; parts = 24; due = 20833 }
clock = refl

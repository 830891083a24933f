-- Worked examples of both clocks, by the bytes of MIDI 1.0. Moments are in microseconds.
use Rattle.std.specs.Prelude.{ℕ, zero, suc, ◌≡◌, ◌-◌, ◌^◌, true, false, map, [], ◌∷◌, ◌++◌, replicate, Some, None, refl}
use Rattle.orca_base.specs.MidiBytes.{note_on_bytes}
use Rattle.orca_sync.specs.Clocks.{stopped, running, heed, beats_from}
use Rattle.orca_sync.specs.Leading.{Metronome, metronome_from, due_of, plays, clocked_at, toggle_byte, toggled_at}
use Rattle.orca_sync.specs.declared.follower.Beat.TheVariants.{Frame, Restart}
use Rattle.orca_term.specs.Pacing.{interval_of}

-- a follower: clocks before any start play nothing
clocks_before_a_start : beats_from stopped (0xF8 ∷ 0xF8 ∷ []) ≡ []
unfolding heed beats_from
clocks_before_a_start = refl

-- a continue plays on from where a follower begins
continue_first : beats_from stopped (0xFB ∷ 0xF8 ∷ []) ≡ Frame ∷ []
unfolding heed beats_from
continue_first = refl

-- seven clocks are a frame and the first clock of the next
seven_clocks : beats_from stopped (0xFA ∷ replicate 7 0xF8) ≡ Restart ∷ Frame ∷ Frame ∷ []
unfolding heed beats_from
seven_clocks = refl

-- a clock inside of a message, and a start inside of a system exclusive message
inside_of_messages : beats_from stopped
    (0x90 ∷ 0xF8 ∷ 0x24 ∷ 0x77 ∷ 0xF0 ∷ 0xFA ∷ 0xF8 ∷ 0xF7 ∷ []) ≡ Restart ∷ Frame ∷ []
unfolding heed beats_from
inside_of_messages = refl

-- a note between two clocks
note_between : beats_from (running 5) (0xF8 ∷ note_on_bytes 0 0x24 0x77 ++ 0xF8 ∷ []) ≡ Frame ∷ []
unfolding heed beats_from
note_between = refl

-- three clocks, a pause with two, and four more: the fourth is the first of a frame
count_through_a_pause : beats_from stopped
    (0xFA ∷ replicate 3 0xF8 ++ 0xFC ∷ replicate 2 0xF8 ++ 0xFB ∷ replicate 4 0xF8)
    ≡ Restart ∷ Frame ∷ Frame ∷ []
unfolding heed beats_from
count_through_a_pause = refl

third_after_a_pause : beats_from stopped
    (0xFA ∷ replicate 3 0xF8 ++ 0xFC ∷ replicate 2 0xF8 ++ 0xFB ∷ replicate 3 0xF8)
    ≡ Restart ∷ Frame ∷ []
unfolding heed beats_from
third_after_a_pause = refl

-- a second start makes the count 0, so that the next clock plays
second_start : beats_from stopped (0xFA ∷ 0xF8 ∷ 0xFA ∷ 0xF8 ∷ [])
    ≡ Restart ∷ Frame ∷ Restart ∷ Frame ∷ []
unfolding heed beats_from
second_start = refl

-- a start after a stop runs
start_after_a_stop : beats_from stopped (0xFA ∷ 0xFC ∷ 0xFA ∷ 0xF8 ∷ [])
    ≡ Restart ∷ Restart ∷ Frame ∷ []
unfolding heed beats_from
start_after_a_stop = refl

-- the intervals of the slowest tempo, of 120 beats a minute, and of the fastest
slowest_interval : interval_of (metronome_from 1 0).pace ≡ 2500000
slowest_interval = refl

usual_interval : interval_of (metronome_from 120 0).pace ≡ 20833
usual_interval = refl

fastest_interval : interval_of (metronome_from 999 0).pace ≡ 2502
fastest_interval = refl

-- a leader of 120 beats a minute that started at 0, after so many clocks that were given in time
abbrev in_time : ℕ → Metronome
in_time zero = metronome_from 120 0
in_time (suc clocks) = clocked_at (in_time clocks).pace.due (in_time clocks)

-- of its first seven clocks the first and the last play a frame
frames_of_seven_clocks : map (λ (clocks : ℕ). plays (in_time clocks))
    (0 ∷ 1 ∷ 2 ∷ 3 ∷ 4 ∷ 5 ∷ 6 ∷ []) ≡ true ∷ replicate 5 false ++ true ∷ []
frames_of_seven_clocks = refl

first_due : due_of (in_time 0) ≡ Some 20833
first_due = refl

seventh_due : due_of (in_time 6) ≡ Some 145831
seventh_due = refl

-- a clock that is given late: the next one is due when it would have been, or, if that has passed
-- too, an interval later
late : due_of (clocked_at 30000 (in_time 0)) ≡ Some 41666
late = refl

later : due_of (clocked_at 50000 (in_time 0)) ≡ Some 70833
later = refl

-- no moment comes after the last one
last_moment : due_of (metronome_from 120 (2 ^ 64 - 1)) ≡ Some (2 ^ 64 - 1)
last_moment = refl

-- a pause: nothing is due until it goes on, and then an interval later
abbrev paused : Metronome
paused = toggled_at 30000 (in_time 1)

abbrev resumed : Metronome
resumed = toggled_at 40000 paused

byte_of_a_pause : toggle_byte (in_time 1) ≡ 0xFC
byte_of_a_pause = refl

due_in_a_pause : due_of paused ≡ None
due_in_a_pause = refl

byte_of_going_on : toggle_byte paused ≡ 0xFB
byte_of_going_on = refl

due_after_a_pause : due_of resumed ≡ Some 60833
due_after_a_pause = refl

-- the count stays: the clock after it is the second of its frame
count_after_a_pause : plays resumed ≡ false
count_after_a_pause = refl

-- a follower hears the same
heard_by_a_follower : beats_from stopped
    (0xFA ∷ 0xF8 ∷ toggle_byte (in_time 1) ∷ toggle_byte paused ∷ 0xF8 ∷ 0xFC ∷ [])
    ≡ Restart ∷ Frame ∷ []
unfolding heed beats_from
heard_by_a_follower = refl

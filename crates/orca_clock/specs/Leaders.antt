-- The definition of a performance that gives a clock.
use Rattle.std.specs.Prelude.{ℕ, ◌==◌, if◌then◌else◌, Option, Some, Result}
use Rattle.orca_base.specs.Ascii.{space}
use Rattle.orca_course.specs.Courses.{Course, ended, mapped, onward, still}
use Rattle.orca_course.specs.Doing.{Does, Stance}
use Rattle.orca_course.specs.Performers.{Part}
use Rattle.orca_course.specs.Worlds.{World, owing}
use Rattle.orca_course.specs.declared.ending.Ending.{Ending}
use Rattle.orca_course.specs.declared.ending.Stop.{Stop}
use Rattle.orca_course.specs.declared.ending.Stop.TheVariants.{Left}
use Rattle.orca_course.specs.declared.item.Item.{Item}
use Rattle.orca_course.specs.declared.item.Item.TheVariants as item
use Rattle.orca_course.specs.declared.refused.NoMemory.{NoMemory}
use Rattle.orca_concert.specs.Concerts.{Concert}
use Rattle.orca_concert.specs.Manners.{Manner}
use Rattle.orca_concert.specs.Stages.{concert_at}
use Rattle.orca_concert.specs.declared.report.Report.{Ghosts as ReportGhosts}
use Rattle.orca_edit.specs.declared.machine.Machine.{Ghosts}
use Rattle.orca_sync.specs.Leading.{Metronome, clocked_at, due_of, metronome_from, plays, toggle_byte, toggled_at}
use Rattle.orca_sync.specs.RealTime.{start, stop, timing_clock}
use Rattle.orca_clock.specs.Clocked.{clock_course, end_course, clock_frame_course}
use Rattle.orca_clock.specs.declared.lead.Lead.{Lead}

-- ---- states

-- where the run stands and what its report has kept, and the metronome of the clock that it gives
pub record Led (R : Type 0) : Type 0 where
  pub concert : Concert R
  pub metronome : Metronome

-- the same, by the ghost members of its bounds
abbrev pub lead_state : {M R : Type 0} → Ghosts M → (r : ReportGhosts R) → Lead M R → Led r.Kept
lead_state g r lead = record { concert = concert_at g r lead.stage; metronome = lead.leader }

-- how much its session has to clear: it pays for steps that are still to come
abbrev pub lead_residue : {M R : Type 0} → Ghosts M → Lead M R → ℕ
lead_residue g lead = g.residue lead.stage.machine

-- the clock starts at a moment
abbrev pub lead_at_start : {R : Type 0} → ℕ → ℕ → Concert R → Led R
lead_at_start bpm at s = record { concert = s; metronome = metronome_from bpm at }

-- it stands where its session does
abbrev pub lead_stance : {R : Type 0} → Manner R → Stance (Led R)
lead_stance m = record { standing = λ s. Some s.concert.standing; hands = m.hands }

-- this was done of a course
abbrev pub LeadDid : {M R : Type 0} → Ghosts M → (r : ReportGhosts R)
    → (Led r.Kept → Course (Led r.Kept) Stop) → Lead M R → World
    → Result (Option Stop) NoMemory → Lead M R → World → Type 0
LeadDid g r c p x result q y =
    Does (lead_stance r.manner) (c (lead_state g r p)) (lead_state g r p)
    (owing (lead_residue g p) x) result (lead_state g r q) (owing (lead_residue g q) y)

-- ---- the clock

-- what is done with the session alone, and the metronome after it
abbrev pub with_metronome : {R : Type 0} → Metronome → Course (Concert R) Stop
    → Course (Led R) Stop
with_metronome metronome c =
    mapped (λ t. record { concert = t; metronome = metronome }) (λ end. end) c

-- a clock is given, and then the frame is played that it begins, if it begins one
unfoldable pub clocked_course : {R : Type 0} → Manner R → Metronome → Concert R
    → Course (Concert R) Stop
clocked_course m metronome s =
    onward (clock_course timing_clock s)
    (λ t. if plays metronome then clock_frame_course m t else still t)

-- a clock is due, unless it is paused
unfoldable pub clock_due_course : {R : Type 0} → Manner R → ℕ → Led R → Course (Led R) Stop
clock_due_course m at s =
    if s.metronome.pulse.runs
    then with_metronome (clocked_at at s.metronome) (clocked_course m s.metronome s.concert)
    else still s

-- a pause, or going on
unfoldable pub toggle_course : {R : Type 0} → ℕ → Led R → Course (Led R) Stop
toggle_course at s =
    with_metronome (toggled_at at s.metronome) (clock_course (toggle_byte s.metronome) s.concert)

-- ---- keys

-- Ctrl-Q
abbrev pub quit : ℕ
quit = 17

-- the space bar pauses or goes on, and Ctrl-Q ends the performance; all other bytes are dropped
unfoldable pub lead_key_course : {R : Type 0} → ℕ → ℕ → Led R → Course (Led R) Stop
lead_key_course at byte s =
    if byte == space then toggle_course at s
    else (if byte == quit then ended Left s else still s)

-- a byte of a hand; those of other hands than the first are dropped
unfoldable pub hand_key_course : {R : Type 0} → ℕ → ℕ → ℕ → Led R → Course (Led R) Stop
hand_key_course hand at byte s = if hand == 0 then lead_key_course at byte s else still s

-- ---- a performance

-- the start of the clock is given
unfoldable pub lead_open : {R : Type 0} → Led R → Course (Led R) Stop
lead_open s = with_metronome s.metronome (clock_course start s.concert)

-- the end, and then the stop of the clock, also where it is paused
unfoldable pub lead_finish : {R : Type 0} → Manner R → Ending → Led R → Course (Led R) Stop
lead_finish m ending s =
    with_metronome s.metronome (onward (end_course m ending s.concert) (clock_course stop))

-- what an item brings
unfoldable pub lead_course : {R : Type 0} → Manner R → Item → Led R → Course (Led R) Stop
lead_course m item.Start s = still s
lead_course m (item.Open came) s = lead_open s
lead_course m (item.Byte hand at byte) s = hand_key_course hand at byte s
lead_course m (item.Due at) s = clock_due_course m at s
lead_course m item.Settle s = still s
lead_course m (item.Over came) s = still s
lead_course m (item.Ended ending) s = lead_finish m ending s

-- what a leader does
abbrev pub lead_part : {R : Type 0} → Manner R → Part (Led R)
lead_part m = record {
  stance = lead_stance m;
  until = λ s. due_of s.metronome;
  takes = lead_course m;
  seats = λ s. 0;
}

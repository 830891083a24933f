-- The definition of a performance that follows a clock.
use Rattle.std.specs.Prelude.{ℕ, ◌==◌, if◌then◌else◌, Option, Some, None, Result}
use Rattle.orca_base.specs.declared.command.Command.TheVariants as command
use Rattle.orca_course.specs.Courses.{Course, mapped, still}
use Rattle.orca_course.specs.Doing.{Does, Stance}
use Rattle.orca_course.specs.Performers.{Part}
use Rattle.orca_course.specs.Worlds.{World, owing}
use Rattle.orca_course.specs.declared.ending.Stop.{Stop}
use Rattle.orca_course.specs.declared.item.Item.{Item}
use Rattle.orca_course.specs.declared.item.Item.TheVariants as item
use Rattle.orca_course.specs.declared.refused.NoMemory.{NoMemory}
use Rattle.orca_concert.specs.Concerts.{Concert, command_course}
use Rattle.orca_concert.specs.Manners.{Manner}
use Rattle.orca_concert.specs.Stages.{concert_at}
use Rattle.orca_concert.specs.declared.report.Report.{Ghosts as ReportGhosts}
use Rattle.orca_edit.specs.declared.machine.Machine.{Ghosts}
use Rattle.orca_sync.specs.Clocks.{Pulse, heed, stopped}
use Rattle.orca_sync.specs.declared.follower.Beat.{Beat}
use Rattle.orca_sync.specs.declared.follower.Beat.TheVariants as beat
use Rattle.orca_clock.specs.Clocked.{end_course, clock_frame_course}
use Rattle.orca_clock.specs.declared.follow.Follow.{Follow}

-- ---- states

-- where the run stands and what its report has kept, and the pulse of the clock that it follows
pub record Followed (R : Type 0) : Type 0 where
  pub concert : Concert R
  pub pulse : Pulse

-- the same, by the ghost members of its bounds
abbrev pub follow_state : {M R : Type 0} → Ghosts M → (r : ReportGhosts R) → Follow M R
    → Followed r.Kept
follow_state g r follow = record {
  concert = concert_at g r follow.stage;
  pulse = follow.follower;
}

-- how much its session has to clear: it pays for steps that are still to come
abbrev pub follow_residue : {M R : Type 0} → Ghosts M → Follow M R → ℕ
follow_residue g follow = g.residue follow.stage.machine

-- no clock has started it so far
abbrev pub follow_at_start : {R : Type 0} → Concert R → Followed R
follow_at_start s = record { concert = s; pulse = stopped }

-- it stands where its session does
abbrev pub follow_stance : {R : Type 0} → Manner R → Stance (Followed R)
follow_stance m = record { standing = λ s. Some s.concert.standing; hands = m.hands }

-- this was done of a course
abbrev pub FollowDid : {M R : Type 0} → Ghosts M → (r : ReportGhosts R)
    → (Followed r.Kept → Course (Followed r.Kept) Stop) → Follow M R → World
    → Result (Option Stop) NoMemory → Follow M R → World → Type 0
FollowDid g r c p x result q y =
    Does (follow_stance r.manner) (c (follow_state g r p)) (follow_state g r p)
    (owing (follow_residue g p) x) result (follow_state g r q) (owing (follow_residue g q) y)

-- ---- bytes

-- what the clock asks for: the session begins anew, or a frame is played
unfoldable pub beat_course : {R : Type 0} → Manner R → Beat → Concert R → Course (Concert R) Stop
beat_course m beat.Nothing s = still s
beat_course m beat.Frame s = clock_frame_course m s
beat_course m beat.Restart s = command_course m 0 command.Reset s

-- what is done with the session alone, and the pulse after it
abbrev pub with_pulse : {R : Type 0} → Pulse → Course (Concert R) Stop → Course (Followed R) Stop
with_pulse pulse c = mapped (λ t. record { concert = t; pulse = pulse }) (λ end. end) c

-- a byte: its beat is played
unfoldable pub clock_byte_course : {R : Type 0} → Manner R → ℕ → Followed R
    → Course (Followed R) Stop
clock_byte_course m byte s =
    with_pulse (heed s.pulse byte).pulse (beat_course m (heed s.pulse byte).beat s.concert)

-- a byte of a hand; those of other hands than the first are dropped
unfoldable pub hand_byte_course : {R : Type 0} → Manner R → ℕ → ℕ → Followed R
    → Course (Followed R) Stop
hand_byte_course m hand byte s = if hand == 0 then clock_byte_course m byte s else still s

-- ---- a performance

-- what an item brings. No moment is waited for, so none comes
unfoldable pub follow_course : {R : Type 0} → Manner R → Item → Followed R
    → Course (Followed R) Stop
follow_course m item.Start s = still s
follow_course m (item.Open came) s = still s
follow_course m (item.Byte hand at byte) s = hand_byte_course m hand byte s
follow_course m (item.Due at) s = still s
follow_course m item.Settle s = still s
follow_course m (item.Over came) s = still s
follow_course m (item.Ended ending) s = with_pulse s.pulse (end_course m ending s.concert)

-- what a follower does
abbrev pub follow_part : {R : Type 0} → Manner R → Part (Followed R)
follow_part m = record {
  stance = follow_stance m;
  until = λ s. None;
  takes = follow_course m;
  seats = λ s. 0;
}

-- Neither a follower nor a leader asks the inbox: the loop alone does.
use Rattle.std.proofs.Common.{◌≡◌, ℕ, Bool, true, false, arith, refl}
use Rattle.orca_base.specs.declared.command.Command.TheVariants as command
use Rattle.orca_concert.specs.Concerts.{Concert, final_course}
use Rattle.orca_concert.specs.Manners.{Manner}
use Rattle.orca_concert.specs.Manners.News.{Stands}
use Rattle.orca_concert.proofs.DeafLemmas.{close_is_deaf, command_is_deaf, remark_is_deaf}
use Rattle.orca_course.specs.Acts.{AreDeaf}
use Rattle.orca_course.specs.Courses.{afterwards, mapped, onward}
use Rattle.orca_course.specs.Performers.{IsDeaf, KeepsSeats}
use Rattle.orca_course.specs.declared.ending.Ending.{Ending}
use Rattle.orca_course.specs.declared.ending.Ending.TheVariants.{Lost, Spent, Stopped}
use Rattle.orca_course.specs.declared.ending.Stop.TheVariants.{Full, Left, SongTooLong, WaveTooLong}
use Rattle.orca_course.specs.declared.item.Item.TheVariants as item
use Rattle.orca_course.proofs.ActLemmas.{AreDeaf-append}
use Rattle.orca_sync.specs.Clocks.{heed}
use Rattle.orca_sync.specs.Leading.{Metronome}
use Rattle.orca_sync.specs.declared.follower.Beat.{Beat}
use Rattle.orca_sync.specs.declared.follower.Beat.TheVariants as beat
use Rattle.orca_clock.specs.Clocked.{end_course, clock_frame_course, last_text_course}
use Rattle.orca_clock.specs.Followers.{Followed, beat_course, clock_byte_course, follow_course, follow_part, hand_byte_course}
use Rattle.orca_clock.specs.Leaders.{Led, clocked_course, clock_due_course, hand_key_course, lead_key_course, lead_course, lead_finish, lead_open, lead_part, toggle_course}

-- ---- what both share

frame_deaf : {R : Type 0} (m : Manner R) (s : Concert R)
    → AreDeaf (clock_frame_course m s).acts
unfolding clock_frame_course
frame_deaf m s = grind (arith, command_is_deaf m 0 command.Frame s)

text_deaf : {R : Type 0} (m : Manner R) (ending : Ending) (s : Concert R)
    → AreDeaf (last_text_course m ending s).acts
unfolding last_text_course final_course mapped
text_deaf m (Stopped Left) s = remark_is_deaf (m.tells (Stands s.standing) s.kept).remark
text_deaf m (Stopped Full) s = tt
text_deaf m (Stopped SongTooLong) s = tt
text_deaf m (Stopped WaveTooLong) s = tt
text_deaf m Lost s = tt
text_deaf m Spent s = tt

end_deaf : {R : Type 0} (m : Manner R) (ending : Ending) (s : Concert R)
    → AreDeaf (end_course m ending s).acts
unfolding end_course afterwards mapped
end_deaf m ending s =
    let text = last_text_course m ending s in
    AreDeaf-append text.acts _ (text_deaf m ending s) (close_is_deaf m text.state)

-- ---- a follower

beat_deaf : {R : Type 0} (m : Manner R) (b : Beat) (s : Concert R)
    → AreDeaf (beat_course m b s).acts
unfolding beat_course
beat_deaf m beat.Nothing s = tt
beat_deaf m beat.Frame s = frame_deaf m s
beat_deaf m beat.Restart s = command_is_deaf m 0 command.Reset s

byte_deaf : {R : Type 0} (m : Manner R) (byte : ℕ) (s : Followed R)
    → AreDeaf (clock_byte_course m byte s).acts
unfolding clock_byte_course mapped
byte_deaf m byte s = beat_deaf m (heed s.pulse byte).beat s.concert

hand_deaf : {R : Type 0} (m : Manner R) (hand byte : ℕ) (s : Followed R)
    → AreDeaf (hand_byte_course m hand byte s).acts
unfolding hand_byte_course
hand_deaf m hand byte s = grind (arith, byte_deaf m byte s)

pub follow_is_deaf : {R : Type 0} (m : Manner R) → IsDeaf (follow_part m)
unfolding IsDeaf follow_course mapped
follow_is_deaf m item.Start s = tt
follow_is_deaf m (item.Open came) s = tt
follow_is_deaf m (item.Byte hand at byte) s = hand_deaf m hand byte s
follow_is_deaf m (item.Due at) s = tt
follow_is_deaf m item.Settle s = tt
follow_is_deaf m (item.Over came) s = tt
follow_is_deaf m (item.Ended ending) s = end_deaf m ending s.concert

-- it tells nobody what to see
pub follow_is_steady : {R : Type 0} (m : Manner R) → KeepsSeats (follow_part m)
unfolding KeepsSeats
follow_is_steady m i s = refl

-- ---- a leader

clocked_deaf : {R : Type 0} (m : Manner R) (metronome : Metronome) (s : Concert R)
    → AreDeaf (clocked_course m metronome s).acts
unfolding clocked_course onward
clocked_deaf m metronome s = grind (arith, frame_deaf m s)

due_if : {R : Type 0} (m : Manner R) (at : ℕ) (s : Led R) (runs : Bool)
    → s.metronome.pulse.runs ≡ runs → AreDeaf (clock_due_course m at s).acts
unfolding clock_due_course mapped
due_if m at s true is = rw is (clocked_deaf m _ s.concert)
due_if m at s false is = rw is tt

key_deaf : {R : Type 0} (at byte : ℕ) (s : Led R) → AreDeaf (lead_key_course at byte s).acts
unfolding lead_key_course toggle_course mapped
key_deaf at byte s = grind arith

hand_key_deaf : {R : Type 0} (hand at byte : ℕ) (s : Led R)
    → AreDeaf (hand_key_course hand at byte s).acts
unfolding hand_key_course
hand_key_deaf hand at byte s = grind (arith, key_deaf at byte s)

lead_finishes : {R : Type 0} (m : Manner R) (ending : Ending) (s : Led R)
    → AreDeaf (lead_finish m ending s).acts
unfolding lead_finish end_course onward mapped
lead_finishes m ending s =
    AreDeaf-append (end_course m ending s.concert).acts _ (end_deaf m ending s.concert) tt

pub lead_is_deaf : {R : Type 0} (m : Manner R) → IsDeaf (lead_part m)
unfolding IsDeaf lead_course lead_open mapped
lead_is_deaf m item.Start s = tt
lead_is_deaf m (item.Open came) s = tt
lead_is_deaf m (item.Byte hand at byte) s = hand_key_deaf hand at byte s
lead_is_deaf m (item.Due at) s = due_if m at s s.metronome.pulse.runs refl
lead_is_deaf m item.Settle s = tt
lead_is_deaf m (item.Over came) s = tt
lead_is_deaf m (item.Ended ending) s = lead_finishes m ending s

pub lead_is_steady : {R : Type 0} (m : Manner R) → KeepsSeats (lead_part m)
unfolding KeepsSeats
lead_is_steady m i s = refl

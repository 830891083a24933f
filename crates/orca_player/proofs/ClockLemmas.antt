-- Performances by a clock: how they end, and that how bytes are cut into answers changes no command.
use Rattle.std.proofs.Common.{◌≡◌, ◌⊎◌, inl, inr, ℕ, zero, suc, ◌==◌, Bool, true, false, [], refl, ◌∙◌, ap, subst, arith}
use Rattle.std.specs.Prelude.{if◌then◌else◌, nat_lt, IfSome, Some}
use Rattle.std.proofs.lemmas.Bool.Decides.{nat_tests}
use Rattle.orca_base.specs.Ascii.{space}
use Rattle.orca_base.specs.declared.command.Command.{Command}
use Rattle.orca_base.specs.declared.command.Command.TheVariants as command
use Rattle.orca_clock.specs.Clocked.{end_course, clock_frame_course, last_text_course}
use Rattle.orca_clock.specs.Followers.{Followed, beat_course, clock_byte_course, follow_course, follow_part, hand_byte_course}
use Rattle.orca_clock.specs.Leaders.{Led, clocked_course, clock_due_course, hand_key_course, lead_key_course, lead_course, lead_finish, lead_open, lead_part, quit, toggle_course}
use Rattle.orca_concert.specs.Concerts.{Concert, close_course, command_course, final_course}
use Rattle.orca_concert.specs.Manners.{Manner}
use Rattle.orca_concert.proofs.EndingLemmas.{Ends}
use Rattle.orca_course.specs.Acts.{commands_in}
use Rattle.orca_course.specs.Courses.{Course, afterwards, ended, mapped, onward, still}
use Rattle.orca_course.specs.Performers.Turn.{Given}
use Rattle.orca_course.specs.Standings.{standing_closed}
use Rattle.orca_course.specs.declared.ending.Ending.{Ending}
use Rattle.orca_course.specs.declared.ending.Ending.TheVariants.{Lost, Spent, Stopped}
use Rattle.orca_course.specs.declared.ending.Stop.{Stop}
use Rattle.orca_course.specs.declared.ending.Stop.TheVariants.{Full, Left, SongTooLong, WaveTooLong}
use Rattle.orca_course.specs.declared.item.Item.{Item}
use Rattle.orca_course.specs.declared.item.Item.TheVariants as item
use Rattle.orca_course.proofs.ActLemmas.{commands_in-append, handed_commands}
use Rattle.orca_course.proofs.CuttingLemmas.{Brings, ByItems, Told, quiet, told}
use Rattle.orca_course.proofs.CuttingLemmas.Worth.{Counts, Nothing}
use Rattle.orca_course.proofs.MidwayLemmas.{IsMidway}
use Rattle.orca_course.proofs.PerformanceLemmas.{EndsWell, notes-standing_closed}
use Rattle.orca_live.specs.Items.{ByteOf, FrameDue, HeardItem}
use Rattle.orca_live.proofs.WorthLemmas.{worth_of}
use Rattle.orca_reports.specs.Manners.{state_manner}
use Rattle.orca_sync.specs.Clocks.{heed}
use Rattle.orca_sync.specs.Leading.{Metronome}
use Rattle.orca_sync.specs.declared.follower.Beat.{Beat}
use Rattle.orca_sync.specs.declared.follower.Beat.TheVariants as beat
use Rattle.orca_term.specs.Pacing.{Pace}
use Rattle.orca_player.specs.Performances.{EndsSilent}
use Rattle.orca_player.specs.declared.live.TheConstants.{ALONE}

-- a performance may end by leaving and by a full history, and what is printed of commands ends it in
-- no other way
module _ {R : Type 0} (m : Manner R) (P : Stop → Type 0) (left : P Left) (full : P Full)
    (ends : Ends P m) where
  command_ends : (c : Command) (s : Concert R) → IfSome (command_course m 0 c s).ending P
  unfolding command_course onward mapped
  command_ends c s = ends 0 _ _ s.kept

  frame_ends : (s : Concert R) → IfSome (clock_frame_course m s).ending P
  unfolding clock_frame_course
  frame_ends s = grind (arith, full, command_ends command.Frame s)

  -- ---- a follower

  beat_ends : (b : Beat) (s : Concert R) → IfSome (beat_course m b s).ending P
  unfolding beat_course
  beat_ends beat.Nothing s = tt
  beat_ends beat.Frame s = frame_ends s
  beat_ends beat.Restart s = command_ends command.Reset s

  byte_ends : (byte : ℕ) (s : Followed R) → IfSome (clock_byte_course m byte s).ending P
  unfolding clock_byte_course mapped
  byte_ends byte s = beat_ends (heed s.pulse byte).beat s.concert

  pub follow_ends : (i : Item) (s : Followed R) → IfSome (follow_course m i s).ending P
  unfolding follow_course hand_byte_course end_course mapped
  follow_ends item.Start s = tt
  follow_ends (item.Open came) s = tt
  follow_ends (item.Byte hand at byte) s = grind (arith, byte_ends byte s)
  follow_ends (item.Due at) s = tt
  follow_ends item.Settle s = tt
  follow_ends (item.Over came) s = tt
  follow_ends (item.Ended ending) s = tt

  -- ---- a leader

  clocked_ends : (metronome : Metronome) (s : Concert R)
      → IfSome (clocked_course m metronome s).ending P
  unfolding clocked_course onward
  clocked_ends metronome s = grind (arith, frame_ends s)

  due_ends : (at : ℕ) (s : Led R) (runs : Bool) → s.metronome.pulse.runs ≡ runs
      → IfSome (clock_due_course m at s).ending P
  unfolding clock_due_course mapped clocked_course
  due_ends at s true is = rw is (clocked_ends s.metronome s.concert)
  due_ends at s false is = rw is tt

  key_ends : (at byte : ℕ) (s : Led R) → IfSome (lead_key_course at byte s).ending P
  unfolding lead_key_course toggle_course mapped
  key_ends at byte s = grind (arith, left)

  pub lead_ends : (i : Item) (s : Led R) → IfSome (lead_course m i s).ending P
  unfolding lead_course hand_key_course lead_open lead_finish end_course onward mapped
  lead_ends item.Start s = tt
  lead_ends (item.Open came) s = tt
  lead_ends (item.Byte hand at byte) s = grind (arith, key_ends at byte s)
  lead_ends (item.Due at) s = due_ends at s s.metronome.pulse.runs refl
  lead_ends item.Settle s = tt
  lead_ends (item.Over came) s = tt
  lead_ends (item.Ended ending) s = tt

-- ---- the last note

pub follow_silent : {R : Type 0} (m : Manner R) → EndsSilent (follow_part m)
unfolding follow_course end_course afterwards close_course onward mapped
follow_silent m ending s =
    notes-standing_closed (last_text_course m ending s.concert).state.standing

pub lead_silent : {R : Type 0} (m : Manner R) → EndsSilent (lead_part m)
unfolding lead_course lead_finish end_course afterwards close_course onward mapped
lead_silent m ending s =
    notes-standing_closed (last_text_course m ending s.concert).state.standing

-- ---- both

-- it ends by leaving or by a full history
abbrev pub IsLeft : Stop → Type 0
IsLeft stop = (stop ≡ Left) ⊎ (stop ≡ Full)

pub follow_ends_well : {R : Type 0} (m : Manner R) → Ends IsLeft m → EndsWell (follow_part m)
follow_ends_well m ends = record {
  takes = follow_ends m IsLeft (inl refl) (inr refl) ends;
  silent = follow_silent m;
}

pub lead_ends_well : {R : Type 0} (m : Manner R) → Ends IsLeft m → EndsWell (lead_part m)
lead_ends_well m ends = record {
  takes = lead_ends m IsLeft (inl refl) (inr refl) ends;
  silent = lead_silent m;
}

-- ---- the end, whose report tells the grid

-- what is told at last is no command, and changes nothing where the run stands
record IsAside (s : Concert (Unit {0})) (c : Course (Concert (Unit {0})) Stop) : Type 0 where
  pub commands : commands_in c.acts ≡ []
  pub standing : c.state.standing ≡ s.standing

text_aside : (ending : Ending) (s : Concert (Unit {0}))
    → IsAside s (last_text_course state_manner ending s)
unfolding last_text_course final_course mapped
text_aside (Stopped Left) s = record { commands = refl; standing = refl }
text_aside (Stopped Full) s = record { commands = refl; standing = refl }
text_aside (Stopped SongTooLong) s = record { commands = refl; standing = refl }
text_aside (Stopped WaveTooLong) s = record { commands = refl; standing = refl }
text_aside Lost s = record { commands = refl; standing = refl }
text_aside Spent s = record { commands = refl; standing = refl }

-- no command comes, and every note ends
record Closes (s : Concert (Unit {0})) (c : Course (Concert (Unit {0})) Stop) : Type 0 where
  pub commands : commands_in c.acts ≡ []
  pub standing : c.state.standing ≡ standing_closed s.standing

end_closes : (ending : Ending) (s : Concert (Unit {0}))
    → Closes s (end_course state_manner ending s)
unfolding end_course close_course afterwards mapped onward
end_closes ending s =
    let text = text_aside ending s in
    let c = last_text_course state_manner ending s in
    record {
      commands = commands_in-append c.acts _
          ∙ rw text.commands (simp (handed_commands, commands_in-append));
      standing = ap standing_closed text.standing;
    }

-- ---- any cutting

-- one hand is heard, the first
one_hand : (hand : ℕ) → (hand == 0) ≡ nat_lt hand ALONE
one_hand zero = refl
one_hand (suc hand) = grind (arith, nat_tests)

-- a byte of it counts, and that of another is dropped
module _ {S : Type 0} (core : S → S) (does : HeardItem → S → Told S) where
  byte_by : (mine : Bool) (hand byte : ℕ) (c : Course S Stop) (s : S)
      → told core c ≡ does (ByteOf hand byte) (core s)
      → Brings core does (if mine then Counts (ByteOf hand byte) else Nothing)
      (told core (if mine then c else still s)) s
  byte_by true hand byte c s is = is
  byte_by false hand byte c s is = refl

  byte_brings : (hand byte : ℕ) (c : Course S Stop) (s : S)
      → told core c ≡ does (ByteOf hand byte) (core s)
      → Brings core does (if nat_lt hand ALONE then Counts (ByteOf hand byte) else Nothing)
      (told core (if hand == 0 then c else still s)) s
  byte_brings hand byte c s is =
      subst (λ (b : Bool). Brings core does (if b then Counts (ByteOf hand byte) else Nothing)
      (told core (if hand == 0 then c else still s)) s)
      (one_hand hand) (byte_by (hand == 0) hand byte c s is)

-- a byte asks for its beat, and no moment is waited for
abbrev follow_does : HeardItem → Followed (Unit {0}) → Told (Followed (Unit {0}))
follow_does (ByteOf hand byte) s = told (λ t. t) (clock_byte_course state_manner byte s)
follow_does FrameDue s = quiet false s

follow_brings : (i : Item) (s : Followed (Unit {0})) → IsMidway (Given i)
    → Brings (λ t. t) follow_does (worth_of ALONE i)
    (told (λ t. t) (follow_course state_manner i s)) s
unfolding follow_course hand_byte_course
follow_brings item.Start s midway = refl
follow_brings (item.Open came) s midway = refl
follow_brings (item.Byte hand at byte) s midway =
    byte_brings (λ t. t) follow_does hand byte (clock_byte_course state_manner byte s) s refl
follow_brings (item.Due at) s midway = refl
follow_brings item.Settle s midway = refl
follow_brings (item.Over came) s midway = refl
follow_brings (item.Ended ending) s midway = absurd midway

-- where nothing is kept
abbrev pub Anywhere : {S : Type 0} → S → Type 0
Anywhere s = Unit {0}

pub follow_by_items : ByItems (worth_of ALONE) (follow_part state_manner) (λ s. s) Anywhere
    (λ s. Some s.concert.standing)
unfolding follow_course mapped
follow_by_items = record {
  does = follow_does;
  last = λ s. Some (standing_closed s.concert.standing);
  keeping = λ i s midway kept. tt;
  brings = λ i s midway kept. follow_brings i s midway;
  silent = λ ending s. (end_closes ending s.concert).commands;
  sees = λ ending s. ap Some (end_closes ending s.concert).standing;
}

-- the moments of a leader change no command
abbrev pub still_pace : Pace
still_pace = record { bpm = 0; parts = 0; due = 0 }

abbrev pub lead_core : Led (Unit {0}) → Led (Unit {0})
lead_core s = record s { metronome = record s.metronome { pace = still_pace } }

abbrev lead_does : HeardItem → Led (Unit {0}) → Told (Led (Unit {0}))
lead_does (ByteOf hand byte) s = told lead_core (lead_key_course 0 byte s)
lead_does FrameDue s = told lead_core (clock_due_course state_manner 0 s)

due_core : (at : ℕ) (s : Led (Unit {0})) (runs : Bool) → s.metronome.pulse.runs ≡ runs
    → told lead_core (clock_due_course state_manner at s)
    ≡ told lead_core (clock_due_course state_manner 0 (lead_core s))
unfolding clock_due_course mapped clocked_course
due_core at s true is = rw is refl
due_core at s false is = rw is refl

toggle_core : (at : ℕ) (s : Led (Unit {0})) (runs : Bool) → s.metronome.pulse.runs ≡ runs
    → told lead_core (toggle_course at s) ≡ told lead_core (toggle_course 0 (lead_core s))
unfolding toggle_course mapped
toggle_core at s true is = rw is refl
toggle_core at s false is = rw is refl

key_if : (at : ℕ) (s : Led (Unit {0})) (pauses leaves : Bool)
    → told lead_core (if pauses then toggle_course at s
    else (if leaves then ended Left s else still s))
    ≡ told lead_core (if pauses then toggle_course 0 (lead_core s)
    else (if leaves then ended Left (lead_core s) else still (lead_core s)))
key_if at s true leaves = toggle_core at s s.metronome.pulse.runs refl
key_if at s false true = refl
key_if at s false false = refl

key_core : (at byte : ℕ) (s : Led (Unit {0}))
    → told lead_core (lead_key_course at byte s)
    ≡ told lead_core (lead_key_course 0 byte (lead_core s))
unfolding lead_key_course
key_core at byte s = key_if at s (byte == space) (byte == quit)

lead_brings : (i : Item) (s : Led (Unit {0})) → IsMidway (Given i)
    → Brings lead_core lead_does (worth_of ALONE i)
    (told lead_core (lead_course state_manner i s)) s
unfolding lead_course hand_key_course lead_open mapped
lead_brings item.Start s midway = refl
lead_brings (item.Open came) s midway = refl
lead_brings (item.Byte hand at byte) s midway =
    byte_brings lead_core lead_does hand byte (lead_key_course at byte s) s (key_core at byte s)
lead_brings (item.Due at) s midway = due_core at s s.metronome.pulse.runs refl
lead_brings item.Settle s midway = refl
lead_brings (item.Over came) s midway = refl
lead_brings (item.Ended ending) s midway = absurd midway

pub lead_by_items : ByItems (worth_of ALONE) (lead_part state_manner) lead_core Anywhere
    (λ s. Some s.concert.standing)
unfolding lead_course lead_finish end_course onward mapped
lead_by_items = record {
  does = lead_does;
  last = λ s. Some (standing_closed s.concert.standing);
  keeping = λ i s midway kept. tt;
  brings = λ i s midway kept. lead_brings i s midway;
  silent = λ ending s.
      let end = end_closes ending s.concert in
      commands_in-append (end_course state_manner ending s.concert).acts _
      ∙ rw end.commands refl;
  sees = λ ending s. ap Some (end_closes ending s.concert).standing;
}

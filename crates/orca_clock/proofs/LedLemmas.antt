-- What a leader does: the frames that it plays are those that a follower plays which heeds all its
-- bytes, whatever comes after them.
use Rattle.std.proofs.Common.{◌≡◌, ◌≢◌, ℕ, ◌+◌, ◌<◌, ◌≤◌, ◌==◌, Bool, true, false, List, [], ◌∷◌, ◌++◌, length, replicate, refl, sym, ◌∙◌, ap, append_assoc, arith}
use Rattle.std.specs.Prelude.{zero, suc, Some, nat_le, All}
use Rattle.std.specs.Option.{option_map}
use Rattle.std.proofs.lemmas.Bool.Decides.{nat_tests}
use Rattle.std.proofs.lemmas.List.{replicate-append-replicate}
use Rattle.orca_base.specs.Ascii.{space}
use Rattle.orca_base.specs.declared.command.Command.TheVariants as command
use Rattle.orca_base.specs.declared.port.Port.TheVariants as port
use Rattle.orca_base.specs.Ranges.{IsSendable}
use Rattle.orca_concert.specs.Concerts.{concert_with, handed_of}
use Rattle.orca_concert.specs.Manners.{Manner}
use Rattle.orca_course.specs.Acts.{Act, commands_in, gives}
use Rattle.orca_course.specs.Acts.Act.{Await, Give, Learn, Obey, Stand}
use Rattle.orca_course.specs.Courses.{Course, mapped, onward, still}
use Rattle.orca_course.specs.Following.{midi_sent}
use Rattle.orca_course.specs.Performers.{Hearing, Turn, attended, given_course, turn_course}
use Rattle.orca_course.specs.Performers.Turn.{Asked, Given, Learned, Over}
use Rattle.orca_course.specs.Standings.{standing_after}
use Rattle.orca_course.specs.declared.ending.Ending.TheVariants.{Stopped}
use Rattle.orca_course.specs.declared.ending.Stop.TheVariants.{Full}
use Rattle.orca_course.specs.declared.item.Losses.{Losses}
use Rattle.orca_course.specs.declared.item.Item.TheVariants as item
use Rattle.orca_course.proofs.ActLemmas.{commands_in-append, handed_commands}
use Rattle.orca_course.proofs.TurnLemmas.{IsInner}
use Rattle.orca_edit.specs.Frames.{machine_after}
use Rattle.orca_edit.specs.Obeying.{MachineState, obey, piece_of}
use Rattle.orca_edit.proofs.FrameLemmas.{IsPlayed, frame_plays, framed}
use Rattle.orca_op.specs.Laws.{IsLawful}
use Rattle.orca_op.specs.Rules.{rule}
use Rattle.orca_sync.specs.Clocks.{beat_in, beats_from}
use Rattle.orca_sync.specs.Leading.{clocked_at, plays}
use Rattle.orca_sync.specs.RealTime.{timing_clock}
use Rattle.orca_sync.specs.Together.{MayMove, Move, beat_of, bytes_of_move, moved_by}
use Rattle.orca_sync.specs.Together.Move.{Clock, Toggle}
use Rattle.orca_sync.specs.declared.follower.Beat.TheVariants as beat
use Rattle.orca_sync.proofs.LeadLaws.{step}
use Rattle.orca_trace.specs.Calls.{Poll}
use Rattle.orca_clock.specs.Clocked.{clock_frame_course}
use Rattle.orca_clock.specs.Laws.{TellsAtEnd, midi_bytes_in}
use Rattle.orca_clock.specs.Leaders.{Led, clocked_course, clock_due_course, hand_key_course, lead_key_course, lead_course, lead_part, quit, toggle_course, with_metronome}
use Rattle.orca_clock.proofs.GoingLemmas.{attended_holds}
use Rattle.orca_clock.proofs.MidiLemmas.{handed_no_clock, midi_bytes-append}
use Rattle.orca_clock.proofs.TellingLemmas.{Goes, command_told}

abbrev pub machine_of : {R : Type 0} → Led R → MachineState
machine_of s = s.concert.standing.machine

-- a session whose frames can be played
pub record IsReady (m : MachineState) : Type 0 where
  pub closed : m.closed ≤ length m.history
  pub room : length m.history ≤ m.limit
  pub played : IsPlayed (piece_of m)

-- some frames were played, and a follower of the same pulse plays them too, whatever comes after
pub record HasLed {R : Type 0} (s : Led R) (acts : List Act) (t : Led R) : Type 0 where
  pub frames : ℕ
  pub commands : commands_in acts ≡ replicate frames command.Frame
  pub beats : (rest : List ℕ) → beats_from s.metronome.pulse (midi_bytes_in acts ++ rest)
      ≡ replicate frames beat.Frame ++ beats_from t.metronome.pulse rest
  pub machine : machine_of t ≡ machine_after frames (machine_of s)
  pub longer : length (machine_of t).history ≡ length (machine_of s).history + frames
  pub limit : (machine_of t).limit ≡ (machine_of s).limit
  pub ready : IsReady (machine_of t)

abbrev pub Leads : {R : Type 0} → Led R → List Act → Led R → Type 0
Leads s acts t = IsReady (machine_of s) → HasLed s acts t

-- the same of a course, unless it ends so
abbrev LeadsUnless : {R E : Type 0} → E → Led R → Course (Led R) E → Type 0
LeadsUnless bad s c = c.ending ≢ Some bad → Leads s c.acts c.state

machine_after-plus : (n k : ℕ) (m : MachineState)
    → machine_after (n + k) m ≡ machine_after k (machine_after n m)
machine_after-plus zero k m = let is : 0 + k ≡ k = omega arith in ap (λ n. machine_after n m) is
machine_after-plus (suc n) k m =
    let is : suc n + k ≡ suc (n + k) = omega arith in
    ap (λ n. machine_after n m) is ∙ machine_after-plus n k (obey m command.Frame).machine

led_none : {R : Type 0} (s : Led R) → Leads s [] s
unfolding midi_sent
led_none s ready = record {
  frames = 0;
  commands = refl;
  beats = λ rest. refl;
  machine = refl;
  longer = omega arith;
  limit = refl;
  ready = ready;
}

led_both : {R : Type 0} (r s t : Led R) (xs ys : List Act) → Leads r xs s → Leads s ys t
    → Leads r (xs ++ ys) t
led_both r s t xs ys first second ready =
    let a = first ready in
    let b = second a.ready in
    record {
      frames = a.frames + b.frames;
      commands = rw (commands_in-append, a.commands, b.commands)
          (replicate-append-replicate a.frames b.frames command.Frame);
      beats = λ rest.
          rw (midi_bytes-append, append_assoc, a.beats (midi_bytes_in ys ++ rest), b.beats rest)
          (sym (append_assoc (replicate a.frames beat.Frame) (replicate b.frames beat.Frame)
          (beats_from t.metronome.pulse rest))
          ∙ ap (λ beats. beats ++ beats_from t.metronome.pulse rest)
          (replicate-append-replicate a.frames b.frames beat.Frame));
      machine = b.machine
          ∙ (ap (machine_after b.frames) a.machine
          ∙ sym (machine_after-plus a.frames b.frames (machine_of r)));
      longer = omega (arith, a.longer, b.longer);
      limit = b.limit ∙ a.limit;
      ready = b.ready;
    }

-- a move gives its bytes, and its beat is so many frames
moved_beats : {R : Type 0} (s : Led R) (move : Move) (bytes : List ℕ) (frames : ℕ)
    → MayMove s.metronome move → bytes ≡ bytes_of_move s.metronome move
    → beat_in (beat_of s.metronome move) ≡ replicate frames beat.Frame → (rest : List ℕ)
    → beats_from s.metronome.pulse (bytes ++ rest)
    ≡ replicate frames beat.Frame ++ beats_from (moved_by s.metronome move).pulse rest
moved_beats s move bytes frames may is played rest =
    rw is
    (step s.metronome move rest may
    ∙ ap (λ beats. beats ++ beats_from (moved_by s.metronome move).pulse rest) played)

-- a move without a frame
moved_still : {R : Type 0} (s : Led R) (move : Move) (acts : List Act) → MayMove s.metronome move
    → midi_bytes_in acts ≡ bytes_of_move s.metronome move → beat_of s.metronome move ≡ beat.Nothing
    → commands_in acts ≡ []
    → Leads s acts (record { concert = s.concert; metronome = moved_by s.metronome move })
moved_still s move acts may bytes still none ready = record {
  frames = 0;
  commands = none;
  beats = moved_beats s move (midi_bytes_in acts) 0 may bytes (ap beat_in still);
  machine = refl;
  longer = omega arith;
  limit = refl;
  ready = ready;
}

-- ---- the clock

-- a clock is given
abbrev clock_act : Act
clock_act = Give (record { port = port.Midi; bytes = timing_clock ∷ [] })

module _ {R : Type 0} (m : Manner R) (tells : TellsAtEnd m) (lawful : IsLawful rule) where
  -- a frame is played after its clock
  frame_led : (at : ℕ) (s : Led R) → s.metronome.pulse.runs ≡ true → plays s.metronome ≡ true
      → length (machine_of s).history < (machine_of s).limit
      → let o = obey (machine_of s) command.Frame in
      let t = standing_after s.concert.standing o in
      Leads s (clock_act ∷ Stand s.concert.standing
      ∷ Obey command.Frame ∷ gives (handed_of m.hands o.messages) ++ Stand t ∷ [])
      (record { concert = concert_with t s.concert.kept; metronome = clocked_at at s.metronome })
  unfolding midi_sent
  frame_led at s runs first room ready =
      let o = obey (machine_of s) command.Frame in
      let t = standing_after s.concert.standing o in
      let did = framed (piece_of (machine_of s)).tick (machine_of s)
      (record { at = refl; closed = ready.closed }) room in
      let after = frame_plays (piece_of (machine_of s)) lawful ready.played in
      let sendable : All IsSendable o.messages = rw did.messages after.1.sendable in
      let bytes = midi_bytes_in (gives (handed_of m.hands o.messages) ++ Stand t ∷ []) in
      let quiet = handed_no_clock m.hands o.messages t sendable in
      record {
        frames = 1;
        commands = ap (λ commands. command.Frame ∷ commands)
            (handed_commands (handed_of m.hands o.messages) t);
        beats = moved_beats s (Clock at bytes) (timing_clock ∷ bytes) 1 (runs, quiet) refl
            (rw first refl);
        machine = refl;
        longer = did.longer;
        limit = did.limit;
        ready = record {
          closed = did.next.closed;
          room = omega (arith, did.longer, did.limit, room);
          played = rw did.piece after.0;
        };
      }

  -- a clock and its frame, as a course
  frame_clocked : (s : Led R) → plays s.metronome ≡ true
      → nat_le (machine_of s).limit (length (machine_of s).history) ≡ false
      → let o = obey (machine_of s) command.Frame in
      let t = standing_after s.concert.standing o in
      Goes (clocked_course m s.metronome s.concert)
      (clock_act ∷ Stand s.concert.standing
      ∷ Obey command.Frame ∷ gives (handed_of m.hands o.messages) ++ Stand t ∷ [])
      (concert_with t s.concert.kept)
  unfolding clocked_course clock_frame_course onward
  frame_clocked s first room =
      let told = command_told m tells command.Frame s.concert in
      rw (first, room) (record {
        acts = ap (λ acts. clock_act
            ∷ Stand s.concert.standing ∷ acts) told.acts;
        state = told.state;
        ending = told.ending;
      })

  -- a clock alone
  clock_clocked : (s : Led R) → plays s.metronome ≡ false
      → Goes (clocked_course m s.metronome s.concert)
      (clock_act ∷ Stand s.concert.standing ∷ [])
      s.concert
  unfolding clocked_course onward
  clock_clocked s other = rw other (record { acts = refl; state = refl; ending = refl })

  -- a clock whose frame has no room
  full_clocked : (s : Led R) → plays s.metronome ≡ true
      → nat_le (machine_of s).limit (length (machine_of s).history) ≡ true
      → (clocked_course m s.metronome s.concert).ending ≡ Some Full
  unfolding clocked_course clock_frame_course onward
  full_clocked s first full = rw (first, full) refl

  due_runs : (at : ℕ) (s : Led R) → s.metronome.pulse.runs ≡ true
      → clock_due_course m at s
      ≡ with_metronome (clocked_at at s.metronome) (clocked_course m s.metronome s.concert)
  unfolding clock_due_course
  due_runs at s is = rw is refl

  due_paused : (at : ℕ) (s : Led R) → s.metronome.pulse.runs ≡ false → clock_due_course m at s ≡ still s
  unfolding clock_due_course
  due_paused at s is = rw is refl

  due_led : (at : ℕ) (s : Led R) (runs first full : Bool) → s.metronome.pulse.runs ≡ runs
      → plays s.metronome ≡ first
      → nat_le (machine_of s).limit (length (machine_of s).history) ≡ full
      → LeadsUnless Full s (clock_due_course m at s)
  unfolding mapped midi_sent
  due_led at s false first full off counts room = rw (due_paused at s off) (λ other. led_none s)
  due_led at s true false full on counts room =
      let goes = clock_clocked s counts in
      let led = moved_still s (Clock at [])
      (clock_act ∷ Stand s.concert.standing ∷ [])
      (on, refl) refl (rw counts refl) refl in
      rw (due_runs at s on) (λ other. rw (goes.acts, goes.state) led)
  due_led at s true true true on counts room =
      rw (due_runs at s on) (λ other. absurd (other (full_clocked s counts room)))
  due_led at s true true false on counts room =
      let goes = frame_clocked s counts room in
      let led = frame_led at s on counts (grind (arith, nat_tests)) in
      rw (due_runs at s on) (λ other. rw (goes.acts, goes.state) led)

  -- ---- keys

  key_by : (at byte : ℕ) (s : Led R) (pauses leaves : Bool) → (byte == space) ≡ pauses
      → (byte == quit) ≡ leaves → Leads s (lead_key_course at byte s).acts (lead_key_course at byte s).state
  unfolding lead_key_course toggle_course mapped midi_sent
  key_by at byte s true leaves is other =
      rw is (moved_still s (Toggle at) (toggle_course at s).acts tt refl refl refl)
  key_by at byte s false true is other = rw (is, other) (led_none s)
  key_by at byte s false false is other = rw (is, other) (led_none s)

  byte_led : (hand at byte : ℕ) (s : Led R) (first : Bool) → (hand == 0) ≡ first
      → Leads s (hand_key_course hand at byte s).acts (hand_key_course hand at byte s).state
  unfolding hand_key_course
  byte_led hand at byte s true is = rw is (key_by at byte s (byte == space) (byte == quit) refl refl)
  byte_led hand at byte s false is = rw is (led_none s)

  -- ---- turns

  -- a poll gives no byte and no command
  await_led : (poll : Poll) (s : Led R) → Leads s (Await poll ∷ []) s
  unfolding midi_sent
  await_led poll s ready = record {
    frames = 0;
    commands = refl;
    beats = λ rest. refl;
    machine = refl;
    longer = omega arith;
    limit = refl;
    ready = ready;
  }

  -- nor does what calls came to
  learn_led : (came : Losses) (s : Led R) → Leads s (Learn came ∷ []) s
  unfolding midi_sent
  learn_led came s ready = record {
    frames = 0;
    commands = refl;
    beats = λ rest. refl;
    machine = refl;
    longer = omega arith;
    limit = refl;
    ready = ready;
  }

  turn_led : (turn : Turn) → IsInner turn → (s : Led R)
      → LeadsUnless (Stopped Full) s (turn_course (lead_part m) turn s)
  unfolding turn_course given_course lead_course mapped
  turn_led (Asked poll) inner s = λ other. await_led _ s
  turn_led (Learned came) inner s = λ other. learn_led came s
  turn_led (Over ending) inner s = λ other. led_none s
  turn_led (Given (item.Byte hand at byte)) inner s = λ other. byte_led hand at byte s (hand == 0) refl
  turn_led (Given (item.Due at)) inner s = λ other.
      due_led at s s.metronome.pulse.runs (plays s.metronome)
      (nat_le (machine_of s).limit (length (machine_of s).history)) refl refl refl
      (λ is. other (ap (option_map Stopped) is))
  turn_led (Given item.Start) inner s = absurd inner
  turn_led (Given (item.Open came)) inner s = absurd inner
  turn_led (Given (item.Ended ending)) inner s = absurd inner
  turn_led (Given item.Settle) inner s = λ other. led_none s
  turn_led (Given (item.Over came)) inner s = λ other. led_none s

  pub attended_led : (heard : List Hearing) (s : Led R)
      → LeadsUnless (Stopped Full) s (attended (lead_part m) s heard)
  attended_led heard s =
      attended_holds (λ s acts t. Leads s acts t) (Stopped Full) (lead_part m) led_none led_both
      turn_led heard s

-- However a follower ends, it has done the commands of the bytes that it heard, but for those from
-- a frame on that a full history kept from being played.
use Rattle.std.proofs.Common.{◌≡◌, ◌≢◌, ℕ, ◌==◌, Bool, true, false, List, [], ◌∷◌, ◌++◌, length, map, refl, sym, ◌∙◌, ap, append-nil, append_assoc}
use Rattle.std.specs.Prelude.{Option, Some, None, if◌then◌else◌, nat_le, fold}
use Rattle.std.specs.Option.{option_map}
use Rattle.std.specs.List.{flat_map}
use Rattle.std.proofs.lemmas.List.Sums.{fold-append}
use Rattle.orca_base.specs.declared.command.Command.{Command}
use Rattle.orca_base.specs.declared.command.Command.TheVariants as command
use Rattle.orca_base.specs.declared.limits.TheConstants.{MAX_POLLS}
use Rattle.orca_concert.specs.Concerts.{Concert, close_course, command_course, final_course, handed_of}
use Rattle.orca_concert.specs.Manners.{Manner}
use Rattle.orca_concert.specs.Manners.News.{Stands}
use Rattle.orca_course.specs.Acts.{Act, commands_in}
use Rattle.orca_course.specs.Courses.{Course, afterwards, each, lastly, lastly_by, mapped, onward}
use Rattle.orca_course.specs.Performers.{Hearing, Turn, answer_turns, attended, begun, finished, first_turns, given_course, heard_turns, over_turns, performance, spent, turn_course, turns_of}
use Rattle.orca_course.specs.Performers.Turn.{Asked, Given, Learned, Over}
use Rattle.orca_course.specs.Standings.{Standing, notes_of, standing_after, standing_closed}
use Rattle.orca_course.specs.declared.ending.Ending.{Ending}
use Rattle.orca_course.specs.declared.ending.Ending.TheVariants.{Lost, Spent, Stopped}
use Rattle.orca_course.specs.declared.ending.Stop.TheVariants.{Full, Left, SongTooLong, WaveTooLong}
use Rattle.orca_course.specs.declared.item.Losses.{Losses}
use Rattle.orca_course.specs.declared.item.Item.TheVariants as item
use Rattle.orca_course.proofs.ActLemmas.{commands_in-append, handed_commands}
use Rattle.orca_course.proofs.CourseLemmas.{onward_ended, onward_goes}
use Rattle.orca_course.proofs.TurnLemmas.{IsInner}
use Rattle.orca_edit.specs.Obeying.{MachineState, machine_closed, obey}
use Rattle.orca_notes.specs.Sound.{ends}
use Rattle.orca_rig.specs.declared.inbox.Answer.{Answer}
use Rattle.orca_rig.specs.declared.inbox.Answer.TheVariants as answer
use Rattle.orca_sync.specs.Clocks.{Pulse, beat_in, beats_from, heed}
use Rattle.orca_sync.specs.declared.follower.Beat.{Beat}
use Rattle.orca_sync.specs.declared.follower.Beat.TheVariants as beat
use Rattle.orca_clock.specs.Clocked.{clock_frame_course, end_course, last_text_course}
use Rattle.orca_clock.specs.Followers.{Followed, beat_course, clock_byte_course, follow_course, follow_part, hand_byte_course, with_pulse}
use Rattle.orca_clock.specs.Laws.{AreDone, TellsAtEnd, bytes_before, commands_of_beat, heard_in}
use Rattle.orca_clock.proofs.GoingLemmas.{attended_holds, has_ended}
use Rattle.orca_clock.proofs.MidiLemmas.{end_commands, remark_commands}
use Rattle.orca_clock.proofs.TellingLemmas.{close_told, command_told, end_told}

-- ---- two in turn

module _ {E : Type 0} (full : E) where
  done_all : (end : Option E) (done all : List Command) → done ≡ all → AreDone full end done all
  done_all end done all is = record {
    left = [];
    splits = append-nil done ∙ is;
    none = λ other. refl;
  }

  -- some were done, and then others
  done_twice : (end : Option E) (a done all : List Command) → AreDone full end done all
      → AreDone full end (a ++ done) (a ++ all)
  done_twice end a done all second = record {
    left = second.left;
    splits = append_assoc a done second.left ∙ ap (λ more. a ++ more) second.splits;
    none = second.none;
  }

  -- the history is full
  done_none : (all : List Command) → AreDone full (Some full) [] all
  done_none all = record { left = all; splits = refl; none = λ other. absurd (other refl) }

-- what was done of a course
abbrev Does : {S : Type 0} → Course S Ending → List Command → Type 0
Does c all = AreDone (Stopped Full) c.ending (commands_in c.acts) all

-- a course that goes on, and then others
given_then : {S : Type 0} (c : Course S Ending) (next : S → Course S Ending)
    (done all : List Command) → c.ending ≡ None → commands_in c.acts ≡ done
    → Does (next c.state) all → Does (onward c next) (done ++ all)
given_then c next done all goes does later =
    rw (onward_goes c next goes, commands_in-append c.acts (next c.state).acts, does)
    (done_twice (Stopped Full) _ done _ all later)

-- one that ends since the history is full
given_full : {S : Type 0} (c : Course S Ending) (next : S → Course S Ending) (all : List Command)
    → c.ending ≡ Some (Stopped Full) → commands_in c.acts ≡ [] → Does (onward c next) all
given_full c next all full none =
    rw (onward_ended c next (Stopped Full) full, full, none) (done_none (Stopped Full) all)

-- ---- turns

-- the bytes of the first hand among turns, up to the end
abbrev bytes_in : List Turn → List ℕ
bytes_in [] = []
bytes_in (Given (item.Byte hand at byte) ∷ turns) =
    if hand == 0 then byte ∷ bytes_in turns else bytes_in turns
bytes_in (Over ending ∷ turns) = []
bytes_in (_ ∷ turns) = bytes_in turns

-- the commands of these bytes
abbrev commands_from : Pulse → List ℕ → List Command
commands_from pulse bytes = flat_map commands_of_beat (beats_from pulse bytes)

-- the session after these commands
abbrev pub machine_by : List Command → MachineState → MachineState
machine_by commands m = fold (λ n c. (obey n c).machine) m commands

module _ {R : Type 0} (m : Manner R) (tells : TellsAtEnd m) where
  -- from any state on, these turns do the commands of their bytes
  abbrev HeardBy : List Turn → Type 0
  HeardBy turns =
      (s : Followed R)
      → Does (each (turn_course (follow_part m)) turns s) (commands_from s.pulse (bytes_in turns))

  command_goes : (c : Command) (s : Concert R) → (command_course m 0 c s).ending ≡ None
  command_goes c s = (command_told m tells c s).ending

  command_does : (c : Command) (s : Concert R) → commands_in (command_course m 0 c s).acts ≡ c ∷ []
  command_does c s =
      let o = obey s.standing.machine c in
      rw (command_told m tells c s).acts (ap (λ commands. c ∷ commands)
      (handed_commands (handed_of m.hands o.messages) (standing_after s.standing o)))

  -- a beat, and then the other turns
  beat_heard : (b : Beat) (s : Followed R) (turns : List Turn) (full : Bool) → HeardBy turns
      → nat_le s.concert.standing.machine.limit (length s.concert.standing.machine.history) ≡ full
      → (pulse : Pulse)
      → Does (onward (mapped (λ t. t) (option_map Stopped) (with_pulse pulse (beat_course m b s.concert)))
      (each (turn_course (follow_part m)) turns))
      (flat_map commands_of_beat (beat_in b ++ beats_from pulse (bytes_in turns)))
  unfolding beat_course clock_frame_course mapped
  beat_heard beat.Nothing s turns full later is pulse =
      given_then _ _ [] _ refl refl (later (record s { pulse = pulse }))
  beat_heard beat.Frame s turns true later is pulse = rw is (given_full _ _ _ refl refl)
  beat_heard beat.Frame s turns false later is pulse =
      rw is (given_then _ _ (command.Frame ∷ []) _
      (ap (option_map Stopped) (command_goes command.Frame s.concert))
      (command_does command.Frame s.concert) (later _))
  beat_heard beat.Restart s turns full later is pulse =
      given_then _ _ (command.Reset ∷ []) _
      (ap (option_map Stopped) (command_goes command.Reset s.concert))
      (command_does command.Reset s.concert) (later _)

  byte_heard : (hand byte : ℕ) (s : Followed R) (turns : List Turn) (first : Bool) → HeardBy turns
      → (hand == 0) ≡ first
      → Does (onward (mapped (λ t. t) (option_map Stopped) (hand_byte_course m hand byte s))
      (each (turn_course (follow_part m)) turns))
      (commands_from s.pulse (if hand == 0 then byte ∷ bytes_in turns else bytes_in turns))
  unfolding hand_byte_course clock_byte_course beats_from mapped
  byte_heard hand byte s turns true later is =
      rw is (beat_heard (heed s.pulse byte).beat s turns
      (nat_le s.concert.standing.machine.limit (length s.concert.standing.machine.history)) later refl
      (heed s.pulse byte).pulse)
  byte_heard hand byte s turns false later is = rw is (given_then _ _ [] _ refl refl (later s))

  text_none : (ending : Ending) (s : Concert R)
      → commands_in (last_text_course m ending s).acts ≡ []
  unfolding last_text_course final_course mapped
  text_none (Stopped Left) s = remark_commands (m.tells (Stands s.standing) s.kept).remark
  text_none (Stopped Full) s = refl
  text_none (Stopped SongTooLong) s = refl
  text_none (Stopped WaveTooLong) s = refl
  text_none Lost s = refl
  text_none Spent s = refl

  close_none : (s : Concert R) → commands_in (close_course m s).acts ≡ []
  close_none s =
      let told = close_told m tells s in
      rw told.acts (handed_commands (handed_of m.hands (ends (notes_of s.standing)))
      (standing_closed s.standing))

  end_none : (ending : Ending) (s : Concert R) → commands_in (end_course m ending s).acts ≡ []
  unfolding end_course afterwards mapped
  end_none ending s =
      let text = last_text_course m ending s in
      end_commands _ text.acts (close_course m text.state).acts [] refl (text_none ending s)
      (close_none text.state)

  turns_heard : (turns : List Turn) → HeardBy turns
  unfolding each turn_course given_course onward follow_course end_course mapped beats_from
  turns_heard [] s = done_all (Stopped Full) None [] [] refl
  turns_heard (Asked poll ∷ turns) s =
      let later = turns_heard turns s in
      record { left = later.left; splits = later.splits; none = later.none }
  turns_heard (Learned came ∷ turns) s =
      let later = turns_heard turns s in
      record { left = later.left; splits = later.splits; none = later.none }
  turns_heard (Over ending ∷ turns) s = done_all (Stopped Full) (Some ending) [] [] refl
  turns_heard (Given (item.Byte hand at byte) ∷ turns) s =
      byte_heard hand byte s turns (hand == 0) (turns_heard turns) refl
  turns_heard (Given (item.Ended ending) ∷ turns) s =
      rw (commands_in-append (end_course m ending s.concert).acts _, end_none ending s.concert)
      (turns_heard turns _)
  turns_heard (Given item.Start ∷ turns) s = turns_heard turns s
  turns_heard (Given (item.Open came) ∷ turns) s = turns_heard turns s
  turns_heard (Given (item.Due at) ∷ turns) s = turns_heard turns s
  turns_heard (Given item.Settle ∷ turns) s = turns_heard turns s
  turns_heard (Given (item.Over came) ∷ turns) s = turns_heard turns s

-- ---- the bytes of answers

hand_bytes : (hand at : ℕ) (bytes : List ℕ) (turns : List Turn)
    → bytes_in (map Given (map (item.Byte hand at) bytes) ++ turns)
    ≡ (if hand == 0 then bytes ++ bytes_in turns else bytes_in turns)
hand_bytes hand at [] turns =
    elim (hand == 0) as
    (λ first. bytes_in turns ≡ (if first then bytes_in turns else bytes_in turns)) [
      | true ↦ refl
      | false ↦ refl
    ]
hand_bytes hand at (byte ∷ bytes) turns =
    rw (hand_bytes hand at bytes turns)
    (elim (hand == 0) as
    (λ first. (if first then byte ∷ (if first then bytes ++ bytes_in turns else bytes_in turns)
    else (if first then bytes ++ bytes_in turns else bytes_in turns))
    ≡ (if first then byte ∷ (bytes ++ bytes_in turns) else bytes_in turns)) [
      | true ↦ refl
      | false ↦ refl
    ])

answer_bytes : (a : Answer) (bytes : List ℕ) (came : Losses) (turns : List Turn)
    → bytes_in (answer_turns a bytes came ++ turns) ≡ bytes_before bytes a (bytes_in turns)
answer_bytes (answer.Bytes hand count at) bytes came turns =
    ap bytes_in (append_assoc (map Given (map (item.Byte hand at) bytes)) (over_turns came) turns)
    ∙ hand_bytes hand at bytes (over_turns came ++ turns)
answer_bytes (answer.Due at) bytes came turns = refl
answer_bytes answer.End bytes came turns = refl
answer_bytes answer.Failed bytes came turns = refl

spent_bytes : (heard : List Hearing) → bytes_in (spent heard) ≡ []
spent_bytes heard =
    elim (nat_le MAX_POLLS (length heard)) as
    (λ over. bytes_in (if over then Over Spent ∷ [] else []) ≡ []) [
      | true ↦ refl
      | false ↦ refl
    ]

heard_bytes : (heard : List Hearing) (turns : List Turn) → bytes_in turns ≡ []
    → bytes_in (flat_map turns_of heard ++ turns) ≡ heard_in heard
heard_bytes [] turns none = none
heard_bytes (h ∷ heard) turns none =
    let first = answer_turns h.poll.answer h.poll.bytes h.came in
    rw (
      append_assoc first (flat_map turns_of heard) turns,
      answer_bytes h.poll.answer h.poll.bytes h.came (flat_map turns_of heard ++ turns),
      heard_bytes heard turns none,
    ) refl

-- ---- a whole performance

module _ {R : Type 0} (m : Manner R) (tells : TellsAtEnd m) where
  last_heard : (end : Option Ending) (c : Course (Followed R) Ending) (all : List Command)
      → c.ending ≡ end → Does c all → Does (lastly_by end c (finished (follow_part m))) all
  unfolding finished follow_course mapped
  last_heard None c all is first = rw is at first
  last_heard (Some ending) c all is first = record {
    left = first.left;
    splits = rw (commands_in-append, end_none m tells ending c.state.concert, append-nil) first.splits;
    none = λ other. first.none (λ full. other (sym is ∙ full));
  }

  pub follow_heard : (opening : Losses) (heard : List Hearing) (s : Followed R)
      → Does (performance (follow_part m) s opening heard) (commands_from s.pulse (heard_in heard))
  unfolding performance lastly begun
  follow_heard opening heard s =
      let c = begun (follow_part m) s opening heard in
      last_heard c.ending c _ refl
      (rw (heard_bytes heard (spent heard) (spent_bytes heard)) at
      (turns_heard m tells (first_turns opening ++ heard_turns heard) s))

  -- ---- the session

  -- it is the one that the commands make
  abbrev IsMade : Followed R → List Act → Followed R → Type 0
  IsMade s acts t =
      t.concert.standing.machine ≡ machine_by (commands_in acts) s.concert.standing.machine

  made_both : (r s t : Followed R) (xs ys : List Act) → IsMade r xs s → IsMade s ys t
      → IsMade r (xs ++ ys) t
  made_both r s t xs ys first second =
      second
      ∙ (ap (machine_by (commands_in ys)) first
      ∙ rw (commands_in-append)
      (sym (fold-append (λ n d. (obey n d).machine) r.concert.standing.machine (commands_in xs)
      (commands_in ys))))

  command_made : (c : Command) (s : Concert R)
      → (command_course m 0 c s).state.standing.machine
      ≡ machine_by (commands_in (command_course m 0 c s).acts) s.standing.machine
  command_made c s = rw (command_does m tells c s, (command_told m tells c s).state) refl

  frame_made : (s : Concert R) (full : Bool)
      → nat_le s.standing.machine.limit (length s.standing.machine.history) ≡ full
      → (clock_frame_course m s).state.standing.machine
      ≡ machine_by (commands_in (clock_frame_course m s).acts) s.standing.machine
  unfolding clock_frame_course
  frame_made s true is = rw is refl
  frame_made s false is = rw is (command_made command.Frame s)

  beat_made : (b : Beat) (s : Concert R)
      → (beat_course m b s).state.standing.machine
      ≡ machine_by (commands_in (beat_course m b s).acts) s.standing.machine
  unfolding beat_course
  beat_made beat.Nothing s = refl
  beat_made beat.Frame s =
      frame_made s (nat_le s.standing.machine.limit (length s.standing.machine.history)) refl
  beat_made beat.Restart s = command_made command.Reset s

  byte_made : (hand byte : ℕ) (s : Followed R) (first : Bool) → (hand == 0) ≡ first
      → IsMade s (hand_byte_course m hand byte s).acts (hand_byte_course m hand byte s).state
  unfolding hand_byte_course clock_byte_course mapped
  byte_made hand byte s true is = rw is (beat_made (heed s.pulse byte).beat s.concert)
  byte_made hand byte s false is = rw is refl

  turn_made : (turn : Turn) → IsInner turn → (s : Followed R)
      → let c = turn_course (follow_part m) turn s in IsMade s c.acts c.state
  unfolding turn_course given_course follow_course mapped
  turn_made (Asked poll) inner s = refl
  turn_made (Learned came) inner s = refl
  turn_made (Over ending) inner s = refl
  turn_made (Given (item.Byte hand at byte)) inner s = byte_made hand byte s (hand == 0) refl
  turn_made (Given (item.Ended ending)) inner s = absurd inner
  turn_made (Given item.Start) inner s = absurd inner
  turn_made (Given (item.Open came)) inner s = absurd inner
  turn_made (Given (item.Due at)) inner s = refl
  turn_made (Given item.Settle) inner s = refl
  turn_made (Given (item.Over came)) inner s = refl

  attended_made : (heard : List Hearing) (s : Followed R)
      → let c = attended (follow_part m) s heard in
      c.ending ≢ Some (Stopped Full) → IsMade s c.acts c.state
  attended_made heard s =
      attended_holds IsMade (Stopped Full) (follow_part m) (λ s. refl) made_both
      (λ turn inner s other. turn_made turn inner s) heard s

  -- a whole performance that its player has left: all commands were done, and then every note ended
  pub follow_played : (opening : Losses) (heard : List Hearing) (s : Followed R)
      → let c = performance (follow_part m) s opening heard in c.ending ≡ Some (Stopped Left)
      → (commands_in c.acts ≡ commands_from s.pulse (heard_in heard))
      × (c.state.concert.standing.machine ≡ machine_closed (machine_by
      (commands_from s.pulse (heard_in heard)) s.concert.standing.machine))
  unfolding begun attended each turn_course given_course onward mapped follow_course
  follow_played opening heard s left =
      let p = performance (follow_part m) s opening heard in
      let c = attended (follow_part m) s heard in
      let all = follow_heard opening heard s in
      let whole = has_ended (follow_part m) s opening heard (Stopped Left) left in
      let ended : c.ending ≡ Some (Stopped Left) = whole.ending in
      let commands : commands_in p.acts ≡ commands_from s.pulse (heard_in heard) =
      sym (append-nil (commands_in p.acts))
      ∙ (ap (λ more. commands_in p.acts ++ more) (sym (all.none (λ full. absurd cc))) ∙ all.splits) in
      let end = end_told m tells c.state.concert in
      let before : commands_in c.acts ≡ commands_from s.pulse (heard_in heard) =
      sym (end_commands _ (begun (follow_part m) s opening heard).acts
      (follow_course m (item.Ended (Stopped Left)) c.state).acts (commands_in c.acts) whole.acts refl
      end.commands) ∙ commands in
      let made = attended_made heard s (λ full. absurd cc) in (
        commands,
        ap (λ (t : Followed R). t.concert.standing.machine) whole.state
            ∙ (ap (λ (t : Standing). t.machine) end.standing
            ∙ ap machine_closed (rw before at made)),
      )

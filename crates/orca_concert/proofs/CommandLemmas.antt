-- A command, and the close: messages are handed out, the run stands, and then its report is told.
use Rattle.std.proofs.Common.{◌≡◌, ◌≢◌, ℕ, Bool, true, false, List, [], ◌∷◌, ◌++◌, refl, sym, append_assoc, arith}
use Rattle.std.specs.Prelude.{Option, Some, None, Result, Ok, Err}
use Rattle.orca_base.specs.declared.command.Command.{Command}
use Rattle.orca_base.specs.declared.command.Fault.{Fault}
use Rattle.orca_base.specs.declared.command.Reply.{Reply}
use Rattle.orca_base.specs.declared.command.Rule.{Rule}
use Rattle.orca_base.specs.declared.message.Message.{Message}
use Rattle.orca_edit.specs.Machines.{Acts, Closes, obeyed}
use Rattle.orca_edit.specs.Obeying.{MachineState, obey}
use Rattle.orca_edit.specs.Prices.{Kept, bill, charge, kept_after}
use Rattle.orca_notes.specs.Device.{Plays, midi_messages}
use Rattle.orca_notes.specs.Sound.{ends}
use Rattle.orca_send.specs.Sending.{sends_of}
use Rattle.orca_course.specs.Acts.{gives}
use Rattle.orca_course.specs.Acts.Act.{Obey, Stand}
use Rattle.orca_course.specs.Courses.{Course, course}
use Rattle.orca_course.specs.Doing.{Does, IsDone, nowhere}
use Rattle.orca_course.specs.Following.{Accompanies, midi_sent}
use Rattle.orca_course.specs.Standings.{Standing, kept_of, notes_of, standing, standing_after, standing_closed, tally_after}
use Rattle.orca_course.specs.Worlds.{Calls, Made, Sated, World}
use Rattle.orca_course.specs.declared.ending.Stop.{Stop}
use Rattle.orca_course.specs.declared.refused.NoMemory.{NoMemory}
use Rattle.orca_course.specs.declared.refused.NoMemory.TheVariants.{InSend, Elsewhere}
use Rattle.orca_course.proofs.ActLemmas.{open_after-append, stand_after-append}
use Rattle.orca_course.proofs.CourseLemmas.{onward_longer}
use Rattle.orca_course.proofs.DoingLemmas.{answered_same, does_acts, does_begun, does_cut, does_joined, does_mapped, does_none, does_then, rests_mute}
use Rattle.orca_course.proofs.FollowLemmas.{Follows-front, accompanies_twice, follows_gives, keys_after_gives}
use Rattle.orca_course.proofs.WorldLemmas.{made_none, made_obey, made_stand, made_twice, made_within, wants_longer}
use Rattle.orca_concert.specs.Concerts.{Concert, answer_of, close_course, command_course, concert_with, handed_of, obeyed_course, reported, stance_of, with_kept}
use Rattle.orca_concert.specs.Manners.{Aside, Manner, aside_course}
use Rattle.orca_concert.specs.Manners.News.{Closed, Done}
use Rattle.orca_concert.proofs.ChargeLemmas.{charge_most}

-- ---- messages

-- the MIDI messages of a command's messages
midi_sent-sends_of : (messages : List Message) → midi_sent (sends_of messages) ≡ midi_messages messages
unfolding midi_sent midi_messages
midi_sent-sends_of [] = refl
midi_sent-sends_of (x ∷ messages) = grind (arith, midi_sent-sends_of messages)

-- messages that lead a device from one standing to another
accompanies_sends : (s t : Standing) (messages : List Message)
    → Plays (notes_of s) messages (notes_of t)
    → Accompanies (Some s) (gives (sends_of messages)) (Some t)
accompanies_sends s t messages plays =
    grind (arith, follows_gives, keys_after_gives, midi_sent-sends_of messages)

accompanies_handed : (hands : Bool) (s t : Standing) (messages : List Message)
    → Plays (notes_of s) messages (notes_of t) → hands ≡ true
    → Accompanies (Some s) (gives (handed_of hands messages) ++ Stand t ∷ []) (Some t)
accompanies_handed true s t messages plays on =
    accompanies_twice (accompanies_sends s t messages plays)
    (record { follows = (refl, tt); keys = refl })
accompanies_handed false s t messages plays on = absurd cc

-- messages are handed out, if they are, and then the run stands so
abbrev pub handed_course : {R : Type 0} → Manner R → Standing → List Message → R
    → Course (Concert R) Stop
handed_course m t messages kept =
    course (gives (handed_of m.hands messages) ++ Stand t ∷ []) 0 (concert_with t kept)

module _ {R : Type 0} (m : Manner R) {s t : Standing} {messages : List Message} (kept : R)
    (plays : Plays (notes_of s) messages (notes_of t)) {x y : World} where
  pub handed_done : Calls {T = Unit {0}} (gives (handed_of m.hands messages)) (Ok tt) x y
      → Does (stance_of m) (handed_course m t messages kept) (concert_with s kept) x (Ok None)
      (concert_with t kept) y
  handed_done calls =
      let sends = gives (handed_of m.hands messages) in
      does_acts
      (made_within 0 (omega arith) (made_twice calls.called.0 (made_stand t (made_none y))))
      calls.called.1
      (record {
        settled = open_after-append false sends (Stand t ∷ []);
        stands = sym (stand_after-append (Some s) sends (Stand t ∷ []));
        follows = accompanies_handed m.hands s t messages plays;
      })

  -- or a send was refused memory
  pub handed_cut : (u : Concert R) (e : NoMemory) → e ≢ Elsewhere
      → Calls {T = Unit {0}} (gives (handed_of m.hands messages)) (Err e) x y
      → Does (stance_of m) (handed_course m t messages kept) (concert_with s kept) x (Err e) u y
  handed_cut u InSend other cut =
      let begun = cut.called in
      let left = begun.left ++ Stand t ∷ [] in
      let splits : gives (handed_of m.hands messages) ++ Stand t ∷ [] ≡ begun.done ++ left =
      grind (arith, append_assoc, begun.splits) in
      does_begun begun.done left splits begun.made
      (λ hands. Follows-front _ begun.done left
      (rw splits at (accompanies_handed m.hands s t messages plays hands)).follows)
      (wants_longer InSend begun.left (Stand t ∷ []) x y begun.wants)
  handed_cut u Elsewhere other cut = absurd (other refl)

-- ---- a report

-- what the report does, as a course of the run
pub reported_done : {R : Type 0} (m : Manner R) (a : Aside R) (s : Concert R) {kept : R}
    {x y : World} {result : Result (Option Stop) NoMemory}
    → Does (nowhere (Some s.standing) m.hands) (aside_course a) s.kept x result kept y
    → Does (stance_of m) (reported a s) s x result (with_kept s kept) y
reported_done m a s {result = result} did =
    rw (← (answered_same result))
    (does_mapped (with_kept s) (λ end. end) result refl (λ r. refl) did)

-- ---- a command

module _ {R : Type 0} (m : Manner R) (line : ℕ) (command : Command) (s : Concert R)
    (acted : Result Reply Fault) {new : MachineState} {after : Kept} {messages : List Message}
    {x y : World} (acts : Acts s.standing.machine command acted new messages)
    (keeps : after ≡ kept_after s.standing.machine s.standing.kept command acted)
    (made : Made [] (charge acted s.standing.machine s.standing.kept command) x y)
    (sated : Sated x y) where
  -- the session was refused memory: nothing was done
  pub command_given_up : (e : NoMemory) → Err e ≡ answer_of acted
      → Does (stance_of m) (command_course m line command s) s x (Err e)
      (concert_with (standing new after s.standing.tally) s.kept) y
  unfolding command_course kept_after
  command_given_up e is =
      let o = obey s.standing.machine command in
      let longer = onward_longer (obeyed_course m command o s)
      (λ t. reported (m.tells (Done line o.answer o.messages) t.kept) t) in
      let all = charge_most acted s.standing.machine s.standing.kept command acts in
      does_none _ e (made_within _ (omega (arith, all, longer.2)) made) (grind arith) (grind arith)

  -- its messages were handed out, or that was refused memory
  obeyed_done : {answer : Result Reply Rule} → Ok answer ≡ answer_of acted
      → {u : Concert R} {z : World} {result : Result (Option Stop) NoMemory}
      → Does (stance_of m)
      (handed_course m (standing_after s.standing (obeyed answer new messages)) messages s.kept) s y
      result u z
      → Does (stance_of m) (obeyed_course m command (obeyed answer new messages) s) s x result u z
  obeyed_done is {result = result} handed =
      let price = bill s.standing.machine s.standing.kept command in
      let all = charge_most acted s.standing.machine s.standing.kept command acts in
      let first : Course (Concert R) Stop = course (Obey command ∷ []) price s in
      let obeyed_first : IsDone (stance_of m) first s x None s y = record {
        made = made_obey command (made_within _ all made);
        sated = sated;
        rests = rests_mute (stance_of m) s s _ tt refl;
        state = refl;
        ending = refl;
      } in
      grind (arith, does_joined result obeyed_first handed)

  -- and the report was told, however that went
  pub command_done : {answer : Result Reply Rule} → Ok answer ≡ answer_of acted → {kept : R}
      {w z : World} {result : Result (Option Stop) NoMemory}
      → Calls {T = Unit {0}} (gives (handed_of m.hands messages)) (Ok tt) y z
      → Does (nowhere (Some (standing_after s.standing (obeyed answer new messages))) m.hands)
      (aside_course (m.tells (Done line answer messages) s.kept)) s.kept z result kept w
      → Does (stance_of m) (command_course m line command s) s x result
      (concert_with (standing new after (tally_after s.standing.tally answer messages)) kept) w
  unfolding command_course kept_after
  command_done {answer = answer} is calls told =
      let t = standing_after s.standing (obeyed answer new messages) in
      let obeys : obey s.standing.machine command ≡ obeyed answer new messages = grind arith in
      let keep : after ≡ kept_of answer new s.standing.kept = grind arith in
      rw (obeys, keep)
      (does_then (λ u. reported (m.tells (Done line answer messages) u.kept) u)
      (obeyed_done is (handed_done m s.kept acts.plays calls))
      (reported_done m (m.tells (Done line answer messages) s.kept) (concert_with t s.kept) told))

  -- a send of a message was refused memory
  pub command_cut : {answer : Result Reply Rule} → Ok answer ≡ answer_of acted → (u : Concert R)
      {z : World} (e : NoMemory) → e ≢ Elsewhere
      → Calls {T = Unit {0}} (gives (handed_of m.hands messages)) (Err e) y z
      → Does (stance_of m) (command_course m line command s) s x (Err e) u z
  unfolding command_course
  command_cut {answer = answer} is u e other cut =
      let obeys : obey s.standing.machine command ≡ obeyed answer new messages = grind arith in
      rw obeys
      (does_cut (λ t. reported (m.tells (Done line answer messages) t.kept) t)
      (obeyed_done is (handed_cut m s.kept acts.plays u e other cut)))

-- ---- the close

-- a close leads a device to where no note sounds
closes_play : (s : Standing) {new : MachineState} {messages : List Message}
    → Closes s.machine new messages
    → Plays (notes_of s) (ends (notes_of s)) (notes_of (standing_closed s))
closes_play s closes = rw (closes.machine, closes.ended) at closes.plays

module _ {R : Type 0} (m : Manner R) (s : Concert R) {new : MachineState} {messages : List Message}
    {x y : World} (closes : Closes s.standing.machine new messages) where
  pub close_done : {kept : R} {z : World} {result : Result (Option Stop) NoMemory}
      → Calls {T = Unit {0}} (gives (handed_of m.hands messages)) (Ok tt) x y
      → Does (nowhere (Some (standing_closed s.standing)) m.hands)
      (aside_course (m.tells (Closed messages) s.kept)) s.kept y result kept z
      → Does (stance_of m) (close_course m s) s x result
      (concert_with (standing new s.standing.kept s.standing.tally) kept) z
  unfolding close_course
  close_done calls told =
      let notes = ends (notes_of s.standing) in
      rw closes.machine
      (does_then (λ t. reported (m.tells (Closed notes) t.kept) t)
      (handed_done m s.kept (closes_play s.standing closes) (rw closes.ended at calls))
      (reported_done m (m.tells (Closed notes) s.kept) (concert_with (standing_closed s.standing) s.kept)
      (rw closes.ended at told)))

  pub close_cut : (u : Concert R) (e : NoMemory) → e ≢ Elsewhere
      → Calls {T = Unit {0}} (gives (handed_of m.hands messages)) (Err e) x y
      → Does (stance_of m) (close_course m s) s x (Err e) u y
  unfolding close_course
  close_cut u e other cut =
      does_cut (λ t. reported (m.tells (Closed (ends (notes_of s.standing))) t.kept) t)
      (handed_cut m s.kept (closes_play s.standing closes) u e other (rw closes.ended at cut))

-- a device follows the ends of the notes
pub ends_followed : (s : Standing) {new : MachineState} {messages : List Message}
    → Closes s.machine new messages
    → Accompanies (Some s) (gives (sends_of (ends (notes_of s)))) (Some (standing_closed s))
ends_followed s closes = accompanies_sends s (standing_closed s) _ (closes_play s closes)

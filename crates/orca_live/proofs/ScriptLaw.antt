-- The commands of a performance are kept, and their script leads to the same session.
use Rattle.std.proofs.Common.{◌≡◌, ℕ, zero, suc, ◌+◌, List, [], ◌∷◌, ◌++◌, refl, sym, ◌∙◌, ap, append_assoc, append-nil}
use Rattle.std.specs.Prelude.{map, replicate, Option, Some, None, Result, Ok, Err}
use Rattle.std.specs.List.{flat_map}
use Rattle.std.specs.Option.{option_map, option_map_or}
use Rattle.orca_jam.specs.declared.owner.TheConstants.{NOBODY}
use Rattle.orca_base.specs.declared.command.Command.{Command}
use Rattle.orca_base.specs.declared.command.Command.TheVariants as command
use Rattle.orca_base.specs.declared.command.Reply.{Reply}
use Rattle.orca_base.specs.declared.command.Rule.{Rule}
use Rattle.orca_base.specs.MarkSet.{MarkSet}
use Rattle.orca_concert.specs.Concerts.{Concert, after_cue, command_course as obey_course, concert_with, cue_course, cues_course, halt_of, order_course}
use Rattle.orca_concert.specs.Manners.{Manner}
use Rattle.orca_course.specs.Acts.{Act, commands_in}
use Rattle.orca_course.specs.Courses.{Course, each, lastly, lastly_by, mapped, onward}
use Rattle.orca_course.specs.Performers.{Hearing, begun, finished, performance}
use Rattle.orca_course.specs.Standings.{Standing, refusal_of}
use Rattle.orca_course.specs.declared.ending.Ending.{Ending}
use Rattle.orca_course.specs.declared.ending.Stop.{Stop}
use Rattle.orca_course.specs.declared.item.Losses.{Losses}
use Rattle.orca_course.proofs.ActLemmas.{commands_in-append}
use Rattle.orca_cues.specs.Scripts.{cue_asking, cues_asking}
use Rattle.orca_cues.specs.declared.source.Order.TheVariants.{Do as Once}
use Rattle.orca_edit.specs.Obeying.{MachineState, accept, entry_of, machine_closed, obey, refuse, rule_against}
use Rattle.orca_script.specs.Runs.{commands_of, lines_behind}
use Rattle.orca_script.specs.declared.format_2.Line.{Line}
use Rattle.orca_script.specs.declared.format_2.Line.TheVariants as asks
use Rattle.orca_script.proofs.RunsReadBack.{behind_same}
use Rattle.orca_live.specs.Carrying.{Carries}
use Rattle.orca_live.proofs.Carried.{Anyhow, Attends, begun_carried}
use Rattle.orca_live.specs.Hands.{after_commands}
use Rattle.orca_live.specs.Journals.{LeadsBack}
use Rattle.orca_live.specs.Laws.{GoesOn, Replays, ReplaysScript, replayed, so_far}
use Rattle.orca_live.specs.Performing.{hand_course, live_part, picture_course, take_course}
use Rattle.orca_live.specs.States.{LiveState}
use Rattle.orca_live.proofs.GivenLemmas.{command_once, finish_closes, picture_commands}

-- ---- commands, one after another

after_commands-append : (xs ys : List Command) (machine : MachineState)
    → after_commands (xs ++ ys) machine ≡ after_commands ys (after_commands xs machine)
after_commands-append [] ys machine = refl
after_commands-append (command ∷ xs) ys machine =
    after_commands-append xs ys (obey machine command).machine

-- these commands after those that are kept
abbrev kept_with : List Command → Option (List Command) → Option (List Command)
kept_with more given = option_map (λ before. before ++ more) given

kept_none : (given : Option (List Command)) → given ≡ kept_with [] given
kept_none None = refl
kept_none (Some before) = ap Some (sym (append-nil before))

kept_twice : (given : Option (List Command)) (xs ys : List Command)
    → kept_with ys (kept_with xs given) ≡ kept_with (xs ++ ys) given
kept_twice None xs ys = refl
kept_twice (Some before) xs ys = ap Some (append_assoc before xs ys)

-- what commands make of those that are kept, and of the session
abbrev after : List Command → LiveState → Option (List Command) × MachineState
after commands s = (kept_with commands s.given, after_commands commands s.standing.machine)

-- the commands of acts are kept, and lead to the session
abbrev Keeps : LiveState → List Act → LiveState → Type 0
Keeps s acts t = (t.given, t.standing.machine) ≡ after (commands_in acts) s

keeps_none : (s : LiveState) → Keeps s [] s
keeps_none s = ap (λ given. (given, s.standing.machine)) (kept_none s.given)

keeps_twice : (r s t : LiveState) (xs ys : List Act) → Keeps r xs s → Keeps s ys t
    → Keeps r (xs ++ ys) t
keeps_twice r s t xs ys first second =
    second
    ∙ (ap (λ (x : Option (List Command) × MachineState).
    (kept_with (commands_in ys) x.0, after_commands (commands_in ys) x.1)) first
    ∙ simp (commands_in-append, kept_twice, after_commands-append))

keeps_command : (who : ℕ) (command : Command) (s : LiveState)
    → Keeps s (hand_course who command s).acts (hand_course who command s).state
unfolding hand_course obey_course onward mapped
keeps_command who command s = ap (λ commands. after commands s) (sym (command_once who command s))

keeps_paint : (marks : List MarkSet) (hand : ℕ) (s : LiveState)
    → let c = picture_course marks hand s in Keeps s c.acts c.state
unfolding picture_course
keeps_paint marks hand s =
    keeps_none s ∙ ap (λ commands. after commands s) (sym (picture_commands marks hand s))

keeps_carries : Carries (Anyhow Keeps)
keeps_carries = record {
  none = λ who s t alike. rw (alike.given, alike.standing) (keeps_none s);
  both = λ who end. keeps_twice;
  leaves = λ who s. keeps_none s;
  full = λ s is. keeps_none s;
  command = λ hand command s other. keeps_command hand command s;
  frame = λ s. keeps_command NOBODY command.Frame s;
  struck = λ who hand key s. keeps_none s;
  single = λ hand s keeps. keeps;
  denied = λ who hand denial s. keeps_none s;
  kept = λ who hand bytes s. keeps_none s;
  save = λ who name bytes s saved. keeps_none s;
  append = λ who name byte bytes s named is. keeps_none s;
  paint = λ who marks hand s is. keeps_paint marks hand s;
  screen = λ who hand d s is. keeps_none s;
}

keeps_attends : Attends Keeps
keeps_attends = record { asks = λ poll s. keeps_none s; learns = λ came s. keeps_none s }

-- ---- cues

-- a course leads to a session, and ends so, where an ending of this kind drops the rest
abbrev ran : {H : Type 0} → (Option H → Option Stop) → Course (Concert (Unit {0})) H
    → MachineState × Option Stop
ran over c = (c.state.standing.machine, over c.ending)

-- a command, and then others; where its refusal drops them, they would have changed nothing
order_by : (answer : Result Reply Rule) (end : Option Stop)
    (c : Course (Concert (Unit {0})) _)
    (next : Concert (Unit {0}) → Course (Concert (Unit {0})) _) (more : MachineState)
    → end ≡ None → c.ending ≡ halt_of (refusal_of answer) end
    → ran after_cue (next c.state) ≡ (more, None)
    → ((rule : Rule) → answer ≡ Err rule → more ≡ c.state.standing.machine)
    → ran after_cue (onward c next) ≡ (more, None)
unfolding onward
order_by (Ok reply) end c next more goes is run stays = rw (is, goes) run
order_by (Err rule) end c next more goes is run stays =
    rw (is, goes) (ap (λ m. (m, None)) (sym (stays rule refl)))

-- a refused frame changes nothing
frame_by : (m : MachineState) (against : Option Rule) (rule : Rule)
    → (option_map_or (refuse m) against (accept m command.Frame)).answer ≡ Err rule
    → (option_map_or (refuse m) against (accept m command.Frame)).machine ≡ m
unfolding accept entry_of
frame_by m None rule is = absurd cc
frame_by m (Some other) rule is = refl

frame_stays : (m : MachineState) (rule : Rule) → (obey m command.Frame).answer ≡ Err rule
    → (obey m command.Frame).machine ≡ m
unfolding obey
frame_stays m rule is = frame_by m (rule_against m command.Frame) rule is

-- so it is refused as often as it is given
frames_stay : (n : ℕ) (m : MachineState) → (obey m command.Frame).machine ≡ m
    → after_commands (replicate n command.Frame) m ≡ m
frames_stay zero m same = refl
frames_stay (suc n) m same =
    ap (after_commands (replicate n command.Frame)) same ∙ frames_stay n m same

module _ (m : Manner (Unit {0})) (goes : GoesOn m) where
  frames_replay : (line n : ℕ) (s : Concert (Unit {0}))
      → ran after_cue (each (order_course m line) (replicate n (Once command.Frame)) s)
      ≡ (after_commands (replicate n command.Frame) s.standing.machine, None)
  unfolding each order_course obey_course onward mapped
  frames_replay line zero s = refl
  frames_replay line (suc n) s =
      let old = s.standing.machine in
      let o = obey old command.Frame in
      let more = after_commands (replicate n command.Frame) in
      let c = order_course m line (Once command.Frame) s in
      order_by o.answer _ c (each (order_course m line) (replicate n (Once command.Frame)))
      (more o.machine) (goes line o.answer o.messages s.kept) refl (frames_replay line n c.state)
      (λ rule is.
      let same = frame_stays old rule is in ap more same ∙ (frames_stay n old same ∙ sym same))

  cue_replays : (line : ℕ) (asked : Line) (s : Concert (Unit {0}))
      → ran (λ end. end) (cue_course m (cue_asking line asked) s)
      ≡ (after_commands (commands_of asked) s.standing.machine, None)
  unfolding cue_course each order_course obey_course onward mapped
  cue_replays line (asks.Do command) s =
      let o = obey s.standing.machine command in
      order_by o.answer _ (order_course m line (Once command) s) (each (order_course m line) [])
      o.machine (goes line o.answer o.messages s.kept) refl refl (λ rule is. refl)
  cue_replays line (asks.Frames times) s = frames_replay line times s

  cues_replay : (lines : List Line) (line : ℕ) (s : Concert (Unit {0}))
      → ran (λ end. end) (cues_course m (cues_asking line lines) s)
      ≡ (after_commands (flat_map commands_of lines) s.standing.machine, None)
  unfolding cues_course each onward
  cues_replay [] line s = refl
  cues_replay (asked ∷ lines) line s =
      let first = cue_replays line asked s in
      let rest = flat_map commands_of lines in
      rw (ap (λ (x : MachineState × Option Stop). x.1) first)
      (cues_replay lines (line + 1) (cue_course m (cue_asking line asked) s).state
      ∙ (ap (λ (x : MachineState × Option Stop). (after_commands rest x.0, None)) first
      ∙ ap (λ m. (m, None))
      (sym (after_commands-append (commands_of asked) rest s.standing.machine))))

  replayed_machine : (commands : List Command) (s : Standing)
      → replayed m commands s ≡ after_commands commands s.machine
  replayed_machine commands s =
      ap (λ (x : MachineState × Option Stop). x.0)
      (cues_replay (lines_behind 0 commands) 2 (concert_with s tt))
      ∙ ap (λ list. after_commands list s.machine) (behind_same commands 0)

-- ---- a performance

replays_by : (end : Option Ending) (c : Course LiveState Ending) (s : LiveState)
    → s.given ≡ Some [] → Keeps s c.acts c.state
    → ((lastly_by end c (finished live_part)).ending ≡ None → ⊥)
    → Replays (lastly_by end c (finished live_part)) s
unfolding finished take_course mapped
replays_by None c s empty keeps ends = absurd (ends refl)
replays_by (Some e) c s empty keeps ends =
    let closes = finish_closes c.state in
    let same = closes.commands c.acts in
    record {
      given = closes.given
          ∙ (ap (λ (x : Option (List Command) × MachineState). x.0) keeps
          ∙ (ap (kept_with (commands_in c.acts)) empty ∙ ap Some (sym same)));
      machine = λ m goes.
          ap (λ commands. machine_closed (replayed m commands s.standing)) same
          ∙ (ap machine_closed
          (replayed_machine m goes (commands_in c.acts) s.standing
          ∙ sym (ap (λ (x : Option (List Command) × MachineState). x.1) keeps))
          ∙ sym (ap (λ (at : Standing). at.machine) closes.standing));
    }

pub replays_script : ReplaysScript
unfolding performance lastly
replays_script opening heard s empty ends =
    let c = begun live_part s opening heard in
    replays_by c.ending c s empty
    (begun_carried keeps_carries keeps_attends (λ who name s. keeps_none s) s opening heard) ends

-- its commands lead to the session
pub obeys_commands : (s : LiveState) (opening : Losses) (heard : List Hearing)
    → let c = so_far s opening heard in
    c.state.standing.machine ≡ after_commands (commands_in c.acts) s.standing.machine
obeys_commands s opening heard =
    ap (λ (x : Option (List Command) × MachineState). x.1)
    (begun_carried keeps_carries keeps_attends (λ who name s. keeps_none s) s opening heard)

-- ---- one command on each line

lines_same : (commands : List Command) → flat_map commands_of (map asks.Do commands) ≡ commands
lines_same [] = refl
lines_same (command ∷ commands) = ap (λ rest. command ∷ rest) (lines_same commands)

pub leads_back : LeadsBack
leads_back opening heard s m goes =
    let commands = commands_in (so_far s opening heard).acts in
    ap (λ (x : MachineState × Option Stop). x.0)
    (cues_replay m goes (map asks.Do commands) 2 (concert_with s.standing tt))
    ∙ (ap (λ list. after_commands list s.standing.machine) (lines_same commands)
    ∙ sym (obeys_commands s opening heard))

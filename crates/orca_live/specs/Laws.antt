-- Laws of performances: more answers only add acts; how bytes were cut into answers changes no
-- command; and the script that is saved, done again, leads to the same session.
use Rattle.std.specs.Prelude.{◌≡◌, ◌≢◌, ℕ, List, length, map, [], ◌++◌, Some, None, Result}
use Rattle.orca_base.specs.declared.command.Command.{Command}
use Rattle.orca_base.specs.declared.command.Reply.{Reply}
use Rattle.orca_base.specs.declared.command.Rule.{Rule}
use Rattle.orca_base.specs.declared.message.Message.{Message}
use Rattle.orca_concert.specs.Concerts.{concert_with, cues_course}
use Rattle.orca_concert.specs.Manners.{Manner}
use Rattle.orca_concert.specs.Manners.News.{Done}
use Rattle.orca_course.specs.Acts.{Act, commands_in}
use Rattle.orca_course.specs.Courses.{Course}
use Rattle.orca_course.specs.Performers.{Hearing, begun, performance}
use Rattle.orca_course.specs.Standings.{Standing}
use Rattle.orca_course.specs.declared.ending.Ending.{Ending}
use Rattle.orca_course.specs.declared.item.Losses.{Losses}
use Rattle.orca_cues.specs.Scripts.{cues_asking}
use Rattle.orca_edit.specs.Obeying.{MachineState, machine_closed}
use Rattle.orca_script.specs.Runs.{lines_behind}
use Rattle.orca_live.specs.Items.{items_heard}
use Rattle.orca_live.specs.Performing.{live_part}
use Rattle.orca_live.specs.States.{LiveState, Viewed}
use Rattle.orca_term.specs.declared.cell.ScreenSize.{ScreenSize}

-- a performance up to its end
abbrev pub so_far : LiveState → Losses → List Hearing → Course LiveState Ending
so_far s opening heard = begun live_part s opening heard

-- the whole of it
abbrev pub whole_performance : LiveState → Losses → List Hearing → Course LiveState Ending
whole_performance s opening heard = performance live_part s opening heard

-- the answers do not break off
abbrev pub HasEnded : Course LiveState Ending → Type 0
HasEnded c = c.ending ≢ None

-- more answers only add acts
pub record AppendsActs (c d : Course LiveState Ending) : Type 0 where
  pub tail : List Act
  pub acts : d.acts ≡ c.acts ++ tail

abbrev pub OnlyAppends : Type 0
OnlyAppends =
    (opening : Losses) (heard more : List Hearing) (s : LiveState)
    → AppendsActs (so_far s opening heard) (so_far s opening (heard ++ more))

-- the sizes of the terminals
abbrev pub screens_of : List Viewed → List ScreenSize
screens_of views = map (λ (v : Viewed). v.screen) views

-- two states with the same setting, session, hands, screens and kept commands; moments, the pace
-- and what is shown may differ
pub record AreAlike (s t : LiveState) : Type 0 where
  pub setting : s.setting ≡ t.setting
  pub standing : s.standing ≡ t.standing
  pub crew : s.crew ≡ t.crew
  pub screens : screens_of s.views ≡ screens_of t.views
  pub given : s.given ≡ t.given

-- two performances that give the same commands, and lead to the same session and the same script
pub record PlayAlike (c d : Course LiveState Ending) : Type 0 where
  pub standing : c.state.standing ≡ d.state.standing
  pub given : c.state.given ≡ d.state.given
  pub commands : commands_in c.acts ≡ commands_in d.acts

-- how the same items of the hands that are heard were cut into answers changes no command
abbrev pub ItemsDecide : Type 0
ItemsDecide =
    (opening other : Losses) (heard others : List Hearing) (s t : LiveState)
    → let hands = length s.crew.players in
    items_heard hands heard ≡ items_heard hands others → AreAlike s t
    → HasEnded (whole_performance s opening heard) → HasEnded (whole_performance t other others)
    → PlayAlike (whole_performance s opening heard) (whole_performance t other others)

-- what is printed of commands does not end the run
abbrev pub GoesOn : Manner (Unit {0}) → Type 0
GoesOn m =
    (line : ℕ) (answer : Result Reply Rule) (messages : List Message) (r : Unit {0})
    → (m.tells (Done line answer messages) r).ending ≡ None

-- the session to which the saved script of these commands leads
abbrev pub replayed : Manner (Unit {0}) → List Command → Standing → MachineState
replayed m commands s =
    (cues_course m (cues_asking 2 (lines_behind 0 commands)) (concert_with s tt)).state.standing.machine

-- the commands of a performance are kept, and their script, done again and closed, leads to the
-- same session, whatever is printed of it
pub record Replays (c : Course LiveState Ending) (s : LiveState) : Type 0 where
  pub given : c.state.given ≡ Some (commands_in c.acts)
  pub machine : (m : Manner (Unit {0})) → GoesOn m
      → machine_closed (replayed m (commands_in c.acts) s.standing) ≡ c.state.standing.machine

-- so it is for every performance that ends, if no command was kept before
abbrev pub ReplaysScript : Type 0
ReplaysScript =
    (opening : Losses) (heard : List Hearing) (s : LiveState) → s.given ≡ Some []
    → HasEnded (whole_performance s opening heard) → Replays (whole_performance s opening heard) s

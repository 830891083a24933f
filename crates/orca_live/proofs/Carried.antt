-- What holds of each step of a performance, and of two in turn, holds of all of it.
use Rattle.std.proofs.Common.{ℕ, List, [], ◌∷◌}
use Rattle.std.specs.Prelude.{Option, Some, None}
use Rattle.orca_course.specs.Acts.{Act}
use Rattle.orca_course.specs.Acts.Act.{Await, Learn}
use Rattle.orca_course.specs.Courses.{Course, lastly, lastly_by, mapped}
use Rattle.orca_course.specs.Performers.{Hearing, Turn, begun, finished, given_course, performance, turn_course}
use Rattle.orca_course.specs.Performers.Turn.{Asked, Given, Learned, Over}
use Rattle.orca_course.specs.declared.ending.Ending.{Ending}
use Rattle.orca_course.specs.declared.ending.Stop.{Stop}
use Rattle.orca_course.specs.declared.item.Losses.{Losses}
use Rattle.orca_course.proofs.MidwayLemmas.{IsMidway, all_midway}
use Rattle.orca_course.proofs.TurnLemmas.{turns_hold}
use Rattle.orca_trace.specs.Calls.{Poll}
use Rattle.orca_live.specs.Carrying.{BeginsJournal, Carries, Silences, finish_carried, looks_same, midway_carried}
use Rattle.orca_live.specs.Performing.{live_part, take_course}
use Rattle.orca_live.specs.States.{LiveState}

-- whoever gave the commands, and whether or not they ended the performance
abbrev pub Anyhow : (LiveState → List Act → LiveState → Type 0)
    → Option ℕ → Option Stop → LiveState → List Act → LiveState → Type 0
Anyhow holds who end s acts t = holds s acts t

-- it holds of what the loop does too
pub record Attends (holds : LiveState → List Act → LiveState → Type 0) : Type 0 where
  pub asks : (poll : Poll) (s : LiveState) → holds s (Await poll ∷ []) s
  pub learns : (came : Losses) (s : LiveState) → holds s (Learn came ∷ []) s

module _ {holds : LiveState → List Act → LiveState → Type 0} (carry : Carries (Anyhow holds))
    (attends : Attends holds) (begins : BeginsJournal (Anyhow holds)) where
  turn_carried : (turn : Turn) → IsMidway turn → (s : LiveState)
      → holds s (turn_course live_part turn s).acts (turn_course live_part turn s).state
  unfolding turn_course given_course mapped
  turn_carried (Asked poll) midway s = attends.asks (record poll { until = live_part.until s }) s
  turn_carried (Learned came) midway s = attends.learns came s
  turn_carried (Given i) midway s = midway_carried carry begins None i s midway
  turn_carried (Over ending) midway s = carry.none None s s (looks_same s)

  pub begun_carried : (s : LiveState) (opening : Losses) (heard : List Hearing)
      → let c = begun live_part s opening heard in holds s c.acts c.state
  unfolding begun
  begun_carried s opening heard =
      turns_hold (λ end. holds) (λ end. carry.both None None) IsMidway (turn_course live_part)
      (λ t. carry.none None t t (looks_same t)) turn_carried _
      (all_midway opening heard) s

  lastly_carried : Silences (Anyhow holds) → (end : Option Ending) (c : Course LiveState Ending)
      (s : LiveState) → holds s c.acts c.state
      → let d = lastly_by end c (finished live_part) in holds s d.acts d.state
  unfolding finished take_course mapped
  lastly_carried silences None c s done = done
  lastly_carried silences (Some e) c s done =
      carry.both None None s c.state _ c.acts _ done
      (finish_carried carry silences None c.state)

  pub performance_carried : Silences (Anyhow holds) → (s : LiveState) (opening : Losses)
      (heard : List Hearing) → let c = performance live_part s opening heard in holds s c.acts c.state
  unfolding performance lastly
  performance_carried silences s opening heard =
      let c = begun live_part s opening heard in
      lastly_carried silences c.ending c s (begun_carried s opening heard)

-- The definition of a run of commands: what it does, from its first command to its end.
use Rattle.std.specs.Prelude.{ℕ, ◌/◌, Bool, if◌then◌else◌, List, [], ◌∷◌, ◌++◌, length, replicate, Option, Some, None, Result, Ok, Err}
use Rattle.orca_base.specs.declared.command.Command.{Command}
use Rattle.orca_base.specs.declared.command.Command.TheVariants.{Rewind}
use Rattle.orca_base.specs.declared.command.Fault.{Fault}
use Rattle.orca_base.specs.declared.command.Fault.TheVariants.{Refused, Memory}
use Rattle.orca_base.specs.declared.command.Reply.{Reply}
use Rattle.orca_base.specs.declared.command.Rule.{Rule}
use Rattle.orca_base.specs.declared.message.Message.{Message}
use Rattle.orca_base.specs.Ports.{Sent}
use Rattle.orca_course.specs.Acts.{gives}
use Rattle.orca_course.specs.Acts.Act.{Obey, Stand}
use Rattle.orca_course.specs.Courses.{Course, afterwards, course, each, ended, keeping, mapped, onward}
use Rattle.orca_course.specs.Doing.{Stance}
use Rattle.orca_course.specs.Standings.{Standing, notes_of, standing_after, standing_closed}
use Rattle.orca_course.specs.declared.ending.Stop.{Stop}
use Rattle.orca_course.specs.declared.refused.NoMemory.{NoMemory}
use Rattle.orca_course.specs.declared.refused.NoMemory.TheVariants.{Elsewhere}
use Rattle.orca_cues.specs.declared.source.Cue.{Cue}
use Rattle.orca_cues.specs.declared.source.Order.{Order}
use Rattle.orca_cues.specs.declared.source.Order.TheVariants.{Do, RewindHalf}
use Rattle.orca_edit.specs.Obeying.{MachineState, Obeyed, obey}
use Rattle.orca_edit.specs.Prices.{bill}
use Rattle.orca_notes.specs.Sound.{ends}
use Rattle.orca_send.specs.Sending.{sends_of}
use Rattle.orca_concert.specs.Manners.{Aside, Manner, aside_course}
use Rattle.orca_concert.specs.Manners.News.{Closed, Done, Last, Stands}
use Rattle.orca_concert.specs.declared.halt.Halt.{Halt}
use Rattle.orca_concert.specs.declared.halt.Halt.TheVariants.{Dropped, Ended}

-- where a run stands, and what its report has kept
pub record Concert (R : Type 0) : Type 0 where
  pub standing : Standing
  pub kept : R

abbrev pub concert_with : {R : Type 0} → Standing → R → Concert R
concert_with standing kept = record { standing = standing; kept = kept }

-- the same, but for what the report has kept
abbrev pub with_kept : {R : Type 0} → Concert R → R → Concert R
with_kept s kept = concert_with s.standing kept

-- a run stands where its session does
abbrev pub stance_of : {R : Type 0} → Manner R → Stance (Concert R)
stance_of m = record { standing = λ s. Some s.standing; hands = m.hands }

-- what a report does, as a course of the run
abbrev pub reported : {R : Type 0} → Aside R → Concert R → Course (Concert R) Stop
reported a s = mapped (with_kept s) (λ end. end) (aside_course a)

-- ---- one command

-- the messages are handed out, if they are
abbrev pub handed_of : Bool → List Message → List Sent
handed_of hands messages = if hands then sends_of messages else []

-- what a session made of a command: its messages are handed out, and then the run stands so
abbrev pub obeyed_course : {R : Type 0} → Manner R → Command → Obeyed → Concert R
    → Course (Concert R) Stop
obeyed_course m command o s =
    let t = standing_after s.standing o in
    course (Obey command ∷ gives (handed_of m.hands o.messages) ++ Stand t ∷ [])
    (bill s.standing.machine s.standing.kept command) (concert_with t s.kept)

-- and then the report is told
abbrev pub told_course : {R : Type 0} → Manner R → ℕ → Command → Obeyed → Concert R
    → Course (Concert R) Stop
told_course m line command o s =
    onward (obeyed_course m command o s)
    (λ t. reported (m.tells (Done line o.answer o.messages) t.kept) t)

-- a command
unfoldable pub command_course : {R : Type 0} → Manner R → ℕ → Command → Concert R
    → Course (Concert R) Stop
command_course m line command s =
    told_course m line command (obey s.standing.machine command) s

-- the answer to a command; or memory was refused, and not by a send
abbrev pub answer_of : Result Reply Fault → Result (Result Reply Rule) NoMemory
answer_of (Ok reply) = Ok (Ok reply)
answer_of (Err (Refused rule)) = Ok (Err rule)
answer_of (Err Memory) = Err Elsewhere

-- ---- cues

-- the command that an order means in a session
abbrev pub command_at : Order → MachineState → Command
command_at (Do command) m = command
command_at RewindHalf m = Rewind (length m.history / 2)

-- how a cue goes on after a command: a refusal drops the rest of it, and the end of the run is its
-- end
abbrev pub halt_of : Option Rule → Option Stop → Option Halt
halt_of refused (Some stop) = Some (Ended stop)
halt_of (Some rule) None = Some Dropped
halt_of None None = None

abbrev pub halted : {R : Type 0} → Course (Concert R) Stop → Course (Concert R) Halt
halted c = mapped (λ s. s) (halt_of c.state.standing.tally.refusal) c

-- an order, once
unfoldable pub order_course : {R : Type 0} → Manner R → ℕ → Order → Concert R
    → Course (Concert R) Halt
order_course m line order s =
    halted (command_course m line (command_at order s.standing.machine) s)

-- a refused command drops the rest of its own cue alone
abbrev pub after_cue : Option Halt → Option Stop
after_cue None = None
after_cue (Some Dropped) = None
after_cue (Some (Ended stop)) = Some stop

-- an order, as often as its cue says
unfoldable pub cue_course : {R : Type 0} → Manner R → Cue → Concert R → Course (Concert R) Stop
cue_course m cue s =
    mapped (λ t. t) after_cue (each (order_course m cue.line) (replicate cue.times cue.order) s)

-- all cues, in order
unfoldable pub cues_course : {R : Type 0} → Manner R → List Cue → Concert R
    → Course (Concert R) Stop
cues_course m cues s = each (cue_course m) cues s

-- ---- the end

-- where the run stands at last is told, unless the run was ended
unfoldable pub final_course : {R : Type 0} → Manner R → Option Stop → Concert R
    → Course (Concert R) Stop
final_course m None s = reported (m.tells (Stands s.standing) s.kept) s
final_course m (Some stop) s = ended stop s

-- every note ends
abbrev pub silenced_course : {R : Type 0} → Manner R → Concert R → Course (Concert R) Stop
silenced_course m s =
    course (gives (handed_of m.hands (ends (notes_of s.standing)))
    ++ Stand (standing_closed s.standing) ∷ [])
    0 (concert_with (standing_closed s.standing) s.kept)

-- the close: every note ends, and the report is told
unfoldable pub close_course : {R : Type 0} → Manner R → Concert R → Course (Concert R) Stop
close_course m s =
    onward (silenced_course m s)
    (λ t. reported (m.tells (Closed (ends (notes_of s.standing))) t.kept) t)

-- the report saves, unless the run was ended
unfoldable pub saved_course : {R : Type 0} → Manner R → Option Stop → Concert R
    → Course (Concert R) Stop
saved_course m None s = reported (m.tells Last s.kept) s
saved_course m (Some stop) s = ended stop s

-- the end of a run, by what has ended it
unfoldable pub last_course : {R : Type 0} → Manner R → Option Stop → Concert R
    → Course (Concert R) Stop
last_course m end s =
    afterwards (final_course m end s)
    (λ end t. afterwards (keeping end (close_course m t)) (saved_course m))

-- a whole run of cues
unfoldable pub concert_course : {R : Type 0} → Manner R → List Cue → Concert R
    → Course (Concert R) Stop
concert_course m cues s = afterwards (cues_course m cues s) (last_course m)

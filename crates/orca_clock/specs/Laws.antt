-- What a follower does with the bytes that it hears, and that one that hears exactly what a leader
-- gives plays exactly the leader's frames.
use Rattle.std.specs.Prelude.{◌≡◌, ◌≢◌, ◌<◌, ℕ, ◌==◌, if◌then◌else◌, List, [], ◌∷◌, ◌++◌, All, Option, Some, Result}
use Rattle.std.specs.List.{filter, flat_map}
use Rattle.orca_base.specs.Grids.{IsSheet, Sheet}
use Rattle.orca_base.specs.declared.command.Command.{Command}
use Rattle.orca_base.specs.declared.command.Command.TheVariants as command
use Rattle.orca_base.specs.declared.command.Reply.{Reply}
use Rattle.orca_base.specs.declared.command.Rule.{Rule}
use Rattle.orca_base.specs.declared.message.Message.{Message}
use Rattle.orca_concert.specs.Concerts.{Concert, concert_with}
use Rattle.orca_concert.specs.Manners.{Manner, silence}
use Rattle.orca_concert.specs.Manners.News.{Closed, Done}
use Rattle.orca_course.specs.Acts.{Act, commands_in, given}
use Rattle.orca_course.specs.Courses.{Course}
use Rattle.orca_course.specs.Following.{midi_sent}
use Rattle.orca_course.specs.Performers.{Hearing, performance}
use Rattle.orca_course.specs.Standings.{standing}
use Rattle.orca_course.specs.declared.ending.Ending.{Ending}
use Rattle.orca_course.specs.declared.ending.Ending.TheVariants.{Stopped}
use Rattle.orca_course.specs.declared.ending.Stop.TheVariants.{Full, Left}
use Rattle.orca_course.specs.declared.item.Losses.{Losses}
use Rattle.orca_course.specs.declared.tally.Tally.{Tally}
use Rattle.orca_edit.specs.Obeying.{machine_at_start, piece_of}
use Rattle.orca_edit.specs.Pieces.{Piece}
use Rattle.orca_edit.specs.Prices.{Kept}
use Rattle.orca_op.specs.Laws.{IsLawful}
use Rattle.orca_op.specs.Rules.{rule}
use Rattle.orca_rig.specs.declared.inbox.Answer.{Answer}
use Rattle.orca_rig.specs.declared.inbox.Answer.TheVariants as answer
use Rattle.orca_sync.specs.Clocks.{beats_from, stopped}
use Rattle.orca_sync.specs.RealTime.{is_clock}
use Rattle.orca_sync.specs.declared.follower.Beat.{Beat}
use Rattle.orca_sync.specs.declared.follower.Beat.TheVariants as beat
use Rattle.orca_clock.specs.Followers.{Followed, follow_at_start, follow_part}
use Rattle.orca_clock.specs.Leaders.{Led, lead_at_start, lead_part}

-- ---- bytes and commands

-- the bytes of the first hand that answers bring, up to the end of the inbox
abbrev pub bytes_before : List ℕ → Answer → List ℕ → List ℕ
bytes_before bytes (answer.Bytes hand count at) more = if hand == 0 then bytes ++ more else more
bytes_before bytes (answer.Due at) more = more
bytes_before bytes answer.End more = []
bytes_before bytes answer.Failed more = []

abbrev pub heard_in : List Hearing → List ℕ
heard_in [] = []
heard_in (h ∷ heard) = bytes_before h.poll.bytes h.poll.answer (heard_in heard)

-- the bytes that acts give to the MIDI port, one after another
abbrev pub midi_bytes_in : List Act → List ℕ
midi_bytes_in acts = flat_map (λ message. message) (midi_sent (given acts))

-- the commands of a beat
abbrev pub commands_of_beat : Beat → List Command
commands_of_beat beat.Nothing = []
commands_of_beat beat.Frame = command.Frame ∷ []
commands_of_beat beat.Restart = command.Reset ∷ []

-- ---- performances

-- a report that tells nothing before the end, and nothing of the close
pub record TellsAtEnd {R : Type 0} (m : Manner R) : Type 0 where
  pub done : (line : ℕ) (answer : Result Reply Rule) (messages : List Message) (r : R)
      → m.tells (Done line answer messages) r ≡ silence r
  pub close : (messages : List Message) (r : R) → m.tells (Closed messages) r ≡ silence r

-- an opened grid, with a seed and the most entries of a history
abbrev pub opened_concert : Sheet → ℕ → ℕ → Kept → Tally → Concert (Unit {0})
opened_concert sheet seed limit kept tally =
    concert_with (standing (machine_at_start sheet seed limit) kept tally) tt

-- the piece at last
abbrev pub last_piece : Concert (Unit {0}) → Piece
last_piece s = piece_of s.standing.machine

-- ---- laws

-- of all these commands these were done, and the others none but for a full history
pub record AreDone {E : Type 0} (full : E) (end : Option E) (done all : List Command)
    : Type 0 where
  pub left : List Command
  pub splits : done ++ left ≡ all
  pub none : end ≢ Some full → left ≡ []

-- however a follower ends, it has done the commands of all bytes that it heard, however they were
-- cut into answers, and no others; a full history alone has kept it from the last of them
abbrev pub FollowsBytes : Type 0
FollowsBytes =
    (m : Manner (Unit {0})) (s : Concert (Unit {0})) (opening : Losses) (heard : List Hearing)
    → TellsAtEnd m
    → let c = performance (follow_part m) (follow_at_start s) opening heard in
    AreDone (Stopped Full) c.ending (commands_in c.acts)
    (flat_map commands_of_beat (beats_from stopped (heard_in heard)))

-- whatever other bytes stand between those of the clock: the same commands, and the same session at
-- last
abbrev pub HeedsClock : Type 0
HeedsClock =
    (m : Manner (Unit {0})) (s : Concert (Unit {0})) (opening other : Losses)
    (heard others : List Hearing) → TellsAtEnd m
    → let c = performance (follow_part m) (follow_at_start s) opening heard in
    let d = performance (follow_part m) (follow_at_start s) other others in
    c.ending ≡ Some (Stopped Left) → d.ending ≡ Some (Stopped Left)
    → filter is_clock (heard_in heard) ≡ filter is_clock (heard_in others)
    → (commands_in c.acts ≡ commands_in d.acts)
    × (c.state.concert.standing.machine ≡ d.state.concert.standing.machine)

-- the follower begins anew once, and then plays the leader's frames. It ends with the leader's grid
-- and tick
pub record IsLed (lead : Course (Led (Unit {0})) Ending)
    (follow : Course (Followed (Unit {0})) Ending) : Type 0 where
  pub commands : commands_in follow.acts ≡ command.Reset ∷ commands_in lead.acts
  pub frames : All (λ c. c ≡ command.Frame) (commands_in lead.acts)
  pub grid : (last_piece follow.state.concert).sheet ≡ (last_piece lead.state.concert).sheet
  pub tick : (last_piece follow.state.concert).tick ≡ (last_piece lead.state.concert).tick

-- a leader plays an opened grid, and a follower the same grid with the same seed and at least one
-- entry more of room, for its Reset. It hears exactly the bytes that the leader gives to its MIDI
-- port, notes and all. Both go on until their players leave
abbrev pub FollowerIsLed : Type 0
FollowerIsLed =
    IsLawful rule → (m n : Manner (Unit {0})) → TellsAtEnd m → TellsAtEnd n
    → (sheet : Sheet) (seed limit other bpm at : ℕ) (kept spare : Kept) (tally count : Tally)
    (opening started : Losses) (answers heard : List Hearing) → IsSheet sheet → limit < other
    → let s = lead_at_start bpm at (opened_concert sheet seed limit kept tally) in
    let t = follow_at_start (opened_concert sheet seed other spare count) in
    let lead = performance (lead_part m) s opening answers in
    let follow = performance (follow_part n) t started heard in
    lead.ending ≡ Some (Stopped Left) → follow.ending ≡ Some (Stopped Left)
    → heard_in heard ≡ midi_bytes_in lead.acts → IsLed lead follow

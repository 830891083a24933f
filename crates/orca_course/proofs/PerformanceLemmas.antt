-- Performances by any part: how they end, and that more answers only add acts.
use Rattle.std.proofs.Common.{◌≡◌, ◌≢◌, ◌⊎◌, inl, ℕ, ◌+◌, ◌<◌, Bool, true, false, length, List, [], ◌∷◌, ◌++◌, map, refl, sym, ◌∙◌, ap, append_assoc, append-nil, arith}
use Rattle.std.specs.Prelude.{if◌then◌else◌, nat_le, Option, Some, None, IfSome, count_by, cond, not}
use Rattle.std.specs.List.{flat_map}
use Rattle.std.specs.Option.{option_map}
use Rattle.std.proofs.lemmas.Bool.{lt-leb}
use Rattle.std.proofs.lemmas.Grind.{flat_map-append}
use Rattle.std.proofs.lemmas.List.Sums.{sum_by-cons}
use Rattle.orca_base.specs.declared.limits.TheConstants.{MAX_POLLS}
use Rattle.orca_edit.proofs.FoldLemmas.{piece_after-closed}
use Rattle.orca_edit.specs.Pieces.{Piece}
use Rattle.orca_rig.specs.Arrived.{is_ending}
use Rattle.orca_rig.specs.declared.inbox.Answer.{Answer}
use Rattle.orca_rig.specs.declared.inbox.Answer.TheVariants as answer
use Rattle.orca_course.specs.Acts.{Act}
use Rattle.orca_course.specs.Courses.{Course, each, lastly, lastly_by, mapped, onward, onward_by}
use Rattle.orca_course.specs.Following.{sounding}
use Rattle.orca_course.specs.Performers.{Hearing, Part, Turn, answer_turns, begun, finished, first_turns, given_course, items_of, last_turns, performance, spent, turn_course, turns_of}
use Rattle.orca_course.specs.Performers.Turn.{Asked, Given, Learned, Over}
use Rattle.orca_course.specs.Standings.{Standing, notes_of, standing_closed}
use Rattle.orca_course.specs.declared.ending.Ending.{Ending}
use Rattle.orca_course.specs.declared.ending.Ending.TheVariants.{Lost, Spent, Stopped}
use Rattle.orca_course.specs.declared.ending.Stop.{Stop}
use Rattle.orca_course.specs.declared.ending.Stop.TheVariants.{Full, Left}
use Rattle.orca_course.specs.declared.item.Losses.{Losses}
use Rattle.orca_course.specs.declared.item.Item.{Item}
use Rattle.orca_course.specs.declared.item.Item.TheVariants as item
use Rattle.orca_course.proofs.CourseLemmas.{each-append, each-longer, goes_both, onward-kind}
use Rattle.orca_course.proofs.PollLemmas.{answer_goes}

-- no note sounds after a close
pub notes-standing_closed : (s : Standing) → notes_of (standing_closed s) ≡ []
notes-standing_closed s =
    let m = s.machine in
    ap (λ (p : Piece). p.notes)
    (piece_after-closed m.opened m.seed m.history (length m.history) m.closed (omega arith))

-- how a performer comes to its end: an item ends it by leaving or by a full history alone, and where
-- it has finished no note sounds
pub record EndsWell {S : Type 0} (p : Part S) : Type 0 where
  pub takes : (i : Item) (s : S)
      → IfSome (p.takes i s).ending (λ stop. (stop ≡ Left) ⊎ (stop ≡ Full))
  pub silent : (ending : Ending) (s : S)
      → sounding (p.stance.standing (p.takes (item.Ended ending) s).state) ≡ []

-- ---- the last note

-- where a performer has finished no note sounds
abbrev pub IsSilent : {S : Type 0} → Part S → Type 0
IsSilent {S} p =
    (ending : Ending) (s : S)
    → sounding (p.stance.standing (p.takes (item.Ended ending) s).state) ≡ []

lastly_silent : {S : Type 0} (p : Part S) → IsSilent p → (end : Option Ending)
    (c : Course S Ending) (e : Ending) → (lastly_by end c (finished p)).ending ≡ Some e
    → sounding (p.stance.standing (lastly_by end c (finished p)).state) ≡ []
unfolding finished mapped
lastly_silent p silent None c e is = absurd cc
lastly_silent p silent (Some end) c e is = silent end c.state

-- a whole performance ends with no note
pub performance_silent : {S : Type 0} (p : Part S) → IsSilent p → (s : S) (opening : Losses)
    (heard : List Hearing) (e : Ending) → (performance p s opening heard).ending ≡ Some e
    → sounding (p.stance.standing (performance p s opening heard).state) ≡ []
unfolding performance lastly
performance_silent p silent s opening heard e is =
    let c = begun p s opening heard in lastly_silent p silent c.ending c e is

-- ---- the number of answers

-- a poll counts if it does not end the performance
abbrev pub turn_at : Hearing → ℕ
turn_at h = cond (not (is_ending h.poll.answer)) 1 0

-- how many polls were answered by bytes or a due moment
abbrev pub turns : List Hearing → ℕ
turns heard = count_by (λ (h : Hearing). not (is_ending h.poll.answer)) heard

turns_more : (h : Hearing) (heard : List Hearing) → is_ending h.poll.answer ≡ false
    → turns (h ∷ heard) ≡ 1 + turns heard
turns_more h heard off =
    sum_by-cons turn_at h heard ∙ ap (λ (b : Bool). cond (not b) 1 0 + turns heard) off

-- all polls count of a performance that goes on
pub all_turns : {S : Type 0} (p : Part S) (heard : List Hearing) (s : S)
    → (each (turn_course p) (flat_map turns_of heard) s).ending ≡ None → turns heard ≡ length heard
unfolding each turn_course
all_turns p [] s goes = refl
all_turns p (h ∷ heard) s goes =
    let now = answer_turns h.poll.answer h.poll.bytes h.came in
    let is = each-append (turn_course p) now (flat_map turns_of heard) s in
    let both = goes_both (each (turn_course p) now s) (each (turn_course p) (flat_map turns_of heard))
    (rw is at (goes_both _ (each (turn_course p) (now ++ flat_map turns_of heard)) goes).1) in
    let off = answer_goes p h.poll.answer h.poll.bytes h.came s both.0 in
    let more = turns_more h heard off in
    let rest = all_turns p heard (each (turn_course p) now s).state both.1 in
    omega (arith, more, rest)

-- ---- in which ways it ends

-- a performance ends in one of these ways, or since the inbox failed
abbrev pub EndsIn : (Stop → Type 0) → Option Ending → Type 0
EndsIn P None = Unit {0}
EndsIn P (Some (Stopped stop)) = P stop
EndsIn P (Some Lost) = Unit {0}
EndsIn P (Some Spent) = ⊥

stopped_in : (P : Stop → Type 0) (end : Option Stop) → IfSome end P
    → EndsIn P (option_map Stopped end)
stopped_in P None ends = tt
stopped_in P (Some stop) ends = ends

-- each of these items, where it is taken, ends the performance in one of these ways, if it does
abbrev pub TakesIn : {S : Type 0} → (Stop → Type 0) → Part S → S → List Turn → Type 0
TakesIn P p s turns =
    (before : List Turn) (i : Item) (more : List Turn) → turns ≡ before ++ Given i ∷ more
    → (each (turn_course p) before s).ending ≡ None
    → IfSome (p.takes i (each (turn_course p) before s).state).ending P

-- turns that end a performance in one of these ways alone, but for their items
abbrev AreFine : (Stop → Type 0) → List Turn → Type 0
AreFine P [] = Unit {0}
AreFine P (Over ending ∷ turns) = EndsIn P (Some ending) × AreFine P turns
AreFine P (_ ∷ turns) = AreFine P turns

fine_append : (P : Stop → Type 0) (xs ys : List Turn) → AreFine P xs → AreFine P ys
    → AreFine P (xs ++ ys)
fine_append P [] ys first second = second
fine_append P (x ∷ xs) ys first second = grind (arith, fine_append P xs ys)

fine_items : (P : Stop → Type 0) (items : List Item) → AreFine P (map Given items)
fine_items P [] = tt
fine_items P (i ∷ items) = fine_items P items

fine_last : (P : Stop → Type 0) → P Left → (a : Answer) (came : Losses) → AreFine P (last_turns a came)
fine_last P left (answer.Bytes hand count at) came = tt
fine_last P left (answer.Due at) came = tt
fine_last P left answer.End came = (left, tt)
fine_last P left answer.Failed came = (tt, tt)

fine_heard : (P : Stop → Type 0) → P Left → (heard : List Hearing)
    → AreFine P (flat_map turns_of heard)
fine_heard P left [] = tt
fine_heard P left (h ∷ heard) =
    let items = map Given (items_of h.poll.answer h.poll.bytes) in
    let last = last_turns h.poll.answer h.came in
    fine_append P (items ++ last) (flat_map turns_of heard)
    (fine_append P items last (fine_items P (items_of h.poll.answer h.poll.bytes))
    (fine_last P left h.poll.answer h.came))
    (fine_heard P left heard)

turn_in : {S : Type 0} (P : Stop → Type 0) (p : Part S) (turn : Turn) (turns : List Turn) (s : S)
    → AreFine P (turn ∷ turns) → TakesIn P p s (turn ∷ turns)
    → EndsIn P (turn_course p turn s).ending × AreFine P turns
unfolding turn_course given_course mapped each
turn_in P p (Asked poll) turns s fine takes = (tt, fine)
turn_in P p (Learned came) turns s fine takes = (tt, fine)
turn_in P p (Given i) turns s fine takes = (stopped_in P _ (takes [] i turns refl refl), fine)
turn_in P p (Over ending) turns s fine takes = fine

takes_later : {S : Type 0} (P : Stop → Type 0) (p : Part S) (turn : Turn) (turns : List Turn) (s : S)
    → (turn_course p turn s).ending ≡ None → TakesIn P p s (turn ∷ turns)
    → TakesIn P p (turn_course p turn s).state turns
unfolding each onward
takes_later P p turn turns s goes takes before i more is on =
    let now = takes (turn ∷ before) i more (ap (λ turns. turn ∷ turns) is) in
    rw goes at now on

turns_in : {S : Type 0} (P : Stop → Type 0) (p : Part S) (turns : List Turn) (s : S)
    → AreFine P turns → TakesIn P p s turns → EndsIn P (each (turn_course p) turns s).ending
unfolding each
turns_in P p [] s fine takes = tt
turns_in P p (turn ∷ turns) s fine takes =
    let first = turn_in P p turn turns s fine takes in
    onward-kind (EndsIn P) (turn_course p turn s) (each (turn_course p) turns) first.0
    (λ goes. turns_in P p turns (turn_course p turn s).state first.1
    (takes_later P p turn turns s goes takes))

lastly_in : {S : Type 0} (P : Stop → Type 0) (p : Part S) (end : Option Ending)
    (c : Course S Ending) → EndsIn P end → EndsIn P (lastly_by end c (finished p)).ending
unfolding finished mapped
lastly_in P p None c ends = tt
lastly_in P p (Some end) c ends = ends

-- the turns before the polls are spent
abbrev pub turns_before : Losses → List Hearing → List Turn
turns_before opening heard = first_turns opening ++ flat_map turns_of heard

begun_before : {S : Type 0} (p : Part S) (s : S) (opening : Losses) (heard : List Hearing)
    → begun p s opening heard
    ≡ onward (each (turn_course p) (turns_before opening heard) s) (each (turn_course p) (spent heard))
unfolding begun
begun_before p s opening heard =
    each-append (turn_course p) (turns_before opening heard) (spent heard) s

-- what was said of the turns before, where it goes on, holds of the polls that were spent
spent_in : {S : Type 0} (P : Stop → Type 0) (p : Part S) (s : S) (opening : Losses)
    (heard : List Hearing)
    → (each (turn_course p) (turns_before opening heard) s).ending ≡ None → turns heard < MAX_POLLS
    → EndsIn P (each (turn_course p) (spent heard)
    (each (turn_course p) (turns_before opening heard) s).state).ending
unfolding each
spent_in P p s opening heard goes few =
    let is = each-append (turn_course p) (first_turns opening) (flat_map turns_of heard) s in
    let both = goes_both (each (turn_course p) (first_turns opening) s)
    (each (turn_course p) (flat_map turns_of heard)) (rw is at goes) in
    let many = all_turns p heard (each (turn_course p) (first_turns opening) s).state both.1 in
    let below : length heard < MAX_POLLS = omega (arith, few, many) in
    rw (lt-leb MAX_POLLS (length heard) below) tt

-- a performance with few polls, whose items end it in these ways alone, ends so
pub performance_in : {S : Type 0} (P : Stop → Type 0) → P Left → (p : Part S) (s : S)
    (opening : Losses) (heard : List Hearing) → TakesIn P p s (turns_before opening heard)
    → turns heard < MAX_POLLS → EndsIn P (performance p s opening heard).ending
unfolding performance lastly
performance_in P left p s opening heard takes few =
    let c = each (turn_course p) (turns_before opening heard) s in
    let ends = turns_in P p (turns_before opening heard) s (fine_heard P left heard) takes in
    lastly_in P p _ (begun p s opening heard)
    (rw (begun_before p s opening heard)
    (onward-kind (EndsIn P) c (each (turn_course p) (spent heard)) ends
    (λ goes. spent_in P p s opening heard goes few)))

-- the items of a performance that ends well end it by leaving or by a full history
well_in : {S : Type 0} (p : Part S) → EndsWell p → (s : S) (turns : List Turn)
    → TakesIn (λ stop. (stop ≡ Left) ⊎ (stop ≡ Full)) p s turns
well_in p well s turns before i more is goes = well.takes i (each (turn_course p) before s).state

-- one that ends well, and not by a full history, ends by leaving, or since the inbox failed
pub performance_well : {S : Type 0} (p : Part S) → EndsWell p → (s : S) (opening : Losses)
    (heard : List Hearing) → turns heard < MAX_POLLS
    → (performance p s opening heard).ending ≢ Some (Stopped Full)
    → EndsIn (λ stop. stop ≡ Left) (performance p s opening heard).ending
performance_well p well s opening heard few room =
    let ends = performance_in (λ stop. (stop ≡ Left) ⊎ (stop ≡ Full)) (inl refl) p s opening heard
    (well_in p well s (turns_before opening heard)) few in
    grind (arith, ends, room)

-- ---- more answers only add acts

spent_acts : {S : Type 0} (p : Part S) (last : Bool) (end : Option Ending) (c : Course S Ending)
    → (onward_by end c (each (turn_course p) (if last then Over Spent ∷ [] else []))).acts ≡ c.acts
unfolding each turn_course onward
spent_acts p true None c = append-nil c.acts
spent_acts p false None c = append-nil c.acts
spent_acts p last (Some e) c = refl

-- that the polls are spent adds nothing
begun_acts : {S : Type 0} (p : Part S) (s : S) (opening : Losses) (heard : List Hearing)
    → (begun p s opening heard).acts ≡ (each (turn_course p) (turns_before opening heard) s).acts
unfolding onward
begun_acts p s opening heard =
    let c = each (turn_course p) (turns_before opening heard) s in
    rw (begun_before p s opening heard)
    (spent_acts p (nat_le MAX_POLLS (length heard)) c.ending c)

-- one course has the acts of another, and then these
abbrev pub Adds : {S : Type 0} → Course S Ending → Course S Ending → Type 0
Adds c d = (tail : List Act) × (d.acts ≡ c.acts ++ tail)

pub begun_adds : {S : Type 0} (p : Part S) (opening : Losses) (heard more : List Hearing) (s : S)
    → Adds (begun p s opening heard) (begun p s opening (heard ++ more))
begun_adds p opening heard more s =
    let first = turns_before opening heard in
    let longer = each-longer (turn_course p) first (flat_map turns_of more) s in
    let acts = begun_acts p s opening in
    let all : turns_before opening (heard ++ more) ≡ first ++ flat_map turns_of more =
    rw (flat_map-append turns_of heard more)
    (sym (append_assoc (first_turns opening) (flat_map turns_of heard) (flat_map turns_of more))) in (
      longer.0,
      acts (heard ++ more)
          ∙ (ap (λ turns. (each (turn_course p) turns s).acts) all
          ∙ (longer.1 ∙ ap (λ acts. acts ++ longer.0) (sym (acts heard)))),
    )

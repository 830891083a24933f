-- How many hands there are: acts that do not make the inbox listen leave as many.
use Rattle.std.proofs.Common.{◌≡◌, ℕ, ◌<◌, List, [], ◌∷◌, ◌++◌, length, refl, sym, ap, ◌∙◌, arith, length-append, map}
use Rattle.std.specs.Prelude.{true, fold, IsSomeAnd, Option, Some, None, Ok}
use Rattle.std.specs.List.{list_any}
use Rattle.std.proofs.lemmas.List.Sums.{fold-append}
use Rattle.orca_rig.specs.declared.inbox.Answer.{Answer}
use Rattle.orca_trace.specs.Calls.{Call}
use Rattle.orca_course.specs.Acts.{Act, AreDeaf}
use Rattle.orca_course.specs.Acts.Act.{Listen}
use Rattle.orca_course.specs.Answered.{is_listen, refused_in, seats_by, seats_of}
use Rattle.orca_course.specs.Courses.{Course, each, mapped}
use Rattle.orca_course.specs.Doing.{Does, Stance}
use Rattle.orca_course.specs.Performers.{Hearing, IsDeaf, KeepsSeats, Part, Turn, begun, first_turns, given_course, heard_turns, turn_course}
use Rattle.orca_course.specs.Performers.Turn.{Asked, Given, Learned, Over}
use Rattle.orca_course.specs.Worlds.{AreCalled, AreSeated, IsSeated, Made, Polled, Sated, World, has_listened}
use Rattle.orca_course.specs.declared.ending.Ending.{Ending}
use Rattle.orca_course.specs.declared.item.Item.{Item}
use Rattle.orca_course.specs.declared.item.Losses.{Losses}
use Rattle.orca_course.proofs.ActLemmas.{seats-deaf, seats_after, seats_after-append, seats_after-calls}
use Rattle.orca_course.proofs.AnsweredLemmas.{refused_in-append, seats_after-done}
use Rattle.orca_course.proofs.CourseLemmas.{each-one}
use Rattle.orca_course.proofs.PollLemmas.{given_turns}
use Rattle.orca_course.proofs.TurnLemmas.{Are, turns_hold}

-- ---- acts

nothing_more : {X : Type 0} (xs ys : List X) → xs ++ ys ≡ xs → ys ≡ []
nothing_more xs [] same = refl
nothing_more xs (y ∷ ys) same =
    let longer = sym (length-append xs (y ∷ ys)) ∙ ap (λ zs. length zs) same in
    absurd (omega (arith, longer))

-- what acts make of it, where no call was refused memory
pub seats_made : {acts : List Act} {bill : ℕ} {x y : World} → Made acts bill x y → Sated x y
    → seats_of y.calls ≡ seats_after acts (seats_of x.calls)
unfolding AreCalled seats_of
seats_made {acts = acts} {x = x} {y = y} made sated =
    let called = made.called in
    let none = nothing_more (refused_in x.calls) (refused_in called.0)
    (sym (refused_in-append x.calls called.0)
    ∙ (ap (λ calls. refused_in calls) (sym called.1) ∙ sated)) in
    ap (λ calls. fold seats_by None calls) called.1
    ∙ (fold-append seats_by None x.calls called.0
    ∙ (seats_after-done called.0 (fold seats_by None x.calls) none
    ∙ (ap (λ done. seats_after done (fold seats_by None x.calls)) called.2
    ∙ seats_after-calls acts (fold seats_by None x.calls))))

-- the inbox listens for so many hands
pub seated_made : {name : List ℕ} {hands at bill : ℕ} {x y : World}
    → Made (Listen name hands (Some at) ∷ []) bill x y → Sated x y → AreSeated hands y
seated_made made sated hand below = rw (seats_made made sated) below

-- whoever is there has been waited for
listened_by : (calls : List Call) (seats : Option ℕ) (hand : ℕ) → seats ≡ None
    → IsSomeAnd (fold seats_by seats calls) (λ n. hand < n) → list_any is_listen calls ≡ true
listened_by [] seats hand none some = absurd (grind arith)
listened_by (call ∷ calls) seats hand none some =
    grind (arith, λ (s : Option ℕ). listened_by calls s hand)

pub seated_listened : (hand : ℕ) (x : World) → IsSeated hand x → has_listened x ≡ true
unfolding seats_of
seated_listened hand x seated = listened_by x.calls None hand refl seated

-- ---- courses

-- a course that does not ask the inbox leaves as many
pub seated_did : {S E : Type 0} {v : Stance S} {c : Course S E} {s t : S} {x y : World}
    {end : Option E} (hands : ℕ) → AreDeaf c.acts → Does v c s x (Ok end) t y → AreSeated hands x
    → AreSeated hands y
seated_did {c = c} {x = x} hands deaf did seated hand below =
    rw (seats_made did.did.made did.did.sated, seats-deaf c.acts (seats_of x.calls) deaf)
    (seated hand below)

-- ---- turns

-- no turn makes it listen
abbrev Any : Turn → Type 0
Any turn = Unit {0}

any_turns : (turns : List Turn) → Are Any turns
any_turns [] = tt
any_turns (turn ∷ turns) = (tt, any_turns turns)

abbrev KeepsBoth : {S : Type 0} → Part S → S → List Act → S → Type 0
KeepsBoth p s acts t = ((k : Option ℕ) → seats_after acts k ≡ k) × (p.seats t ≡ p.seats s)

module _ {S : Type 0} (p : Part S) (deaf : IsDeaf p) (steady : KeepsSeats p) where
  turn_keeps : (turn : Turn) → Any turn → (s : S)
      → let c = turn_course p turn s in KeepsBoth p s c.acts c.state
  unfolding turn_course given_course mapped IsDeaf KeepsSeats
  turn_keeps (Asked poll) any s = (λ k. refl, refl)
  turn_keeps (Learned came) any s = (λ k. refl, refl)
  turn_keeps (Given i) any s = (λ k. seats-deaf (p.takes i s).acts k (deaf i s), steady i s)
  turn_keeps (Over ending) any s = (λ k. refl, refl)

  both_keep : (r s t : S) (xs ys : List Act) → KeepsBoth p r xs s → KeepsBoth p s ys t
      → KeepsBoth p r (xs ++ ys) t
  both_keep r s t xs ys first second = (
    λ k. seats_after-append xs ys k ∙ (second.0 (seats_after xs k) ∙ first.0 k),
    second.1 ∙ first.1,
  )

  -- so the hands stay that a performer may tell
  pub seated_turns : (turns : List Turn) {s t : S} {x y : World} {end : Option Ending}
      → Does p.stance (each (turn_course p) turns s) s x (Ok end) t y → AreSeated (p.seats s) x
      → AreSeated (p.seats t) y
  seated_turns turns {s = s} {t = t} {x = x} did seated hand below =
      let keeps = turns_hold (λ end. KeepsBoth p) (λ end. both_keep) Any (turn_course p)
      (λ u. (λ k. refl, refl)) turn_keeps turns (any_turns turns) s in
      let same : p.seats t ≡ p.seats s = ap p.seats (sym did.did.state) ∙ keeps.1 in
      rw (seats_made did.did.made did.did.sated, keeps.0 (seats_of x.calls))
      (seated hand (rw same at below))

  pub seated_items : (items : List Item) {s t : S} {x y : World} {end : Option Ending}
      → Does p.stance (each (given_course p) items s) s x (Ok end) t y → AreSeated (p.seats s) x
      → AreSeated (p.seats t) y
  seated_items items {s = s} {t = t} {x = x} {y = y} {end = end} did seated =
      seated_turns (map Given items) {s = s} {t = t} {x = x} {y = y} {end = end}
      (rw (given_turns p items s) did) seated

  pub seated_given : (i : Item) {s t : S} {x y : World} {end : Option Ending}
      → Does p.stance (given_course p i s) s x (Ok end) t y → AreSeated (p.seats s) x
      → AreSeated (p.seats t) y
  seated_given i {s = s} {t = t} {x = x} {y = y} {end = end} did seated =
      seated_items (i ∷ []) {s = s} {t = t} {x = x} {y = y} {end = end} (rw each-one did) seated

  pub seated_begun : (came : Losses) (heard : List Hearing) {s t : S} {x y : World}
      {end : Option Ending} → Does p.stance (begun p s came heard) s x (Ok end) t y
      → AreSeated (p.seats s) x → AreSeated (p.seats t) y
  unfolding begun
  seated_begun came heard {s = s} {t = t} {x = x} {y = y} {end = end} did seated =
      seated_turns (first_turns came ++ heard_turns heard) {s = s} {t = t} {x = x} {y = y}
      {end = end} did seated

-- a poll leaves as many
pub seated_polled : {until : Option ℕ} {a : Answer} {bytes : List ℕ} {x y : World} (hands : ℕ)
    → Polled until a bytes x y → AreSeated hands x → AreSeated hands y
seated_polled hands polled seated hand below =
    rw (seats_made polled.made polled.sated) (seated hand below)

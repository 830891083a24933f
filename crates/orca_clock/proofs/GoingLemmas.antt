-- What holds of a performance between its ends, and of its end.
use Rattle.std.proofs.Common.{◌≡◌, ◌≢◌, List, [], ◌++◌, refl}
use Rattle.std.specs.Prelude.{Option, Some, None}
use Rattle.orca_course.specs.Acts.{Act}
use Rattle.orca_course.specs.Courses.{Course, lastly, lastly_by, mapped}
use Rattle.orca_course.specs.Performers.{Hearing, Part, Turn, attended, begun, finished, heard_turns, performance, turn_course}
use Rattle.orca_course.specs.declared.ending.Ending.{Ending}
use Rattle.orca_course.specs.declared.item.Losses.{Losses}
use Rattle.orca_course.specs.declared.item.Item.TheVariants as item
use Rattle.orca_course.proofs.TurnLemmas.{IsInner, inner_heard, turns_hold}

-- ---- unless it ends so

-- this holds of a course, unless it has this ending
abbrev pub Unless : {S E : Type 0} → (S → List Act → S → Type 0) → E → S → Course S E → Type 0
Unless holds bad s c = c.ending ≢ Some bad → holds s c.acts c.state

-- what holds of each turn between the ends holds of what was heard
pub attended_holds : {S : Type 0} (holds : S → List Act → S → Type 0) (bad : Ending) (p : Part S)
    → ((s : S) → holds s [] s)
    → ((r s t : S) (xs ys : List Act) → holds r xs s → holds s ys t → holds r (xs ++ ys) t)
    → ((turn : Turn) → IsInner turn → (s : S) → Unless holds bad s (turn_course p turn s))
    → (heard : List Hearing) (s : S) → Unless holds bad s (attended p s heard)
unfolding attended
attended_holds holds bad p none both one heard s =
    turns_hold (λ end s acts t. end ≢ Some bad → holds s acts t)
    (λ end r s t xs ys first second other.
    both r s t xs ys (first (λ is. absurd cc)) (second other))
    IsInner (turn_course p) (λ s other. none s) one (heard_turns heard) (inner_heard heard) s

-- ---- a performance that ended

-- what was done before its end, and then the end
pub record HasEnded {S : Type 0} (p : Part S) (e : Ending) (b c : Course S Ending) : Type 0 where
  pub ending : b.ending ≡ Some e
  pub acts : c.acts ≡ b.acts ++ (p.takes (item.Ended e) b.state).acts
  pub state : c.state ≡ (p.takes (item.Ended e) b.state).state

has_ended_by : {S : Type 0} (p : Part S) (b : Course S Ending) (e : Ending)
    (end : Option Ending) → b.ending ≡ end → (lastly_by end b (finished p)).ending ≡ Some e
    → HasEnded p e b (lastly_by end b (finished p))
unfolding finished mapped
has_ended_by p b e None is ends = absurd cc
has_ended_by p b e (Some other) is ends =
    let same : other ≡ e = cc in
    rw same (record { ending = rw same at is; acts = refl; state = refl })

pub has_ended : {S : Type 0} (p : Part S) (s : S) (opening : Losses) (heard : List Hearing)
    (e : Ending) → (performance p s opening heard).ending ≡ Some e
    → HasEnded p e (begun p s opening heard) (performance p s opening heard)
unfolding performance lastly
has_ended p s opening heard e ends =
    has_ended_by p (begun p s opening heard) e (begun p s opening heard).ending refl ends

-- What a painting changes: what hands are shown, and nothing else.
use Rattle.std.proofs.Common.{◌≡◌, ℕ, Bool, true, false, List, [], ◌∷◌, refl, ◌∙◌, ap}
use Rattle.std.specs.Prelude.{if◌then◌else◌, None}
use Rattle.orca_base.specs.MarkSet.{MarkSet}
use Rattle.orca_course.specs.Courses.{Course, each, onward, still}
use Rattle.orca_course.specs.declared.ending.Stop.{Stop}
use Rattle.orca_course.proofs.CourseLemmas.{onward_goes}
use Rattle.orca_live.specs.Performing.{paint_course, painted_course, picture_course}
use Rattle.orca_live.specs.States.{LiveState, fitted, hands_in, is_painted_for}

-- a course that goes on, and changes what hands are shown alone
pub record IsPainting (s : LiveState) (c : Course LiveState Stop) : Type 0 where
  pub goes : c.ending ≡ None
  pub state : c.state ≡ record s { views = c.state.views }

painting_then : (s : LiveState) (c : Course LiveState Stop)
    (next : LiveState → Course LiveState Stop) → IsPainting s c
    → ((t : LiveState) → IsPainting t (next t)) → IsPainting s (onward c next)
painting_then s c next first more =
    let rest = more c.state in
    rw (onward_goes c next first.goes) (record {
      goes = rest.goes;
      state = rest.state
          ∙ ap (λ (t : LiveState). record t { views = (next c.state).state.views }) first.state;
    })

painted_if : (is : Bool) (marks : List MarkSet) (hand : ℕ) (s : LiveState)
    → IsPainting s (if is then picture_course marks hand s else still s)
unfolding picture_course
painted_if true marks hand s = record { goes = refl; state = refl }
painted_if false marks hand s = record { goes = refl; state = refl }

painted_is : (marks : List MarkSet) (hand : ℕ) (s : LiveState)
    → IsPainting s (painted_course marks hand s)
unfolding painted_course
painted_is marks hand s = painted_if (is_painted_for hand s) marks hand s

pub paints_are : (marks : List MarkSet) (hands : List ℕ) (s : LiveState)
    → IsPainting s (each (painted_course marks) hands s)
unfolding each
paints_are marks [] s = record { goes = refl; state = refl }
paints_are marks (hand ∷ hands) s =
    painting_then s (painted_course marks hand s) (each (painted_course marks) hands)
    (painted_is marks hand s) (paints_are marks hands)

-- of editors that were fitted
pub paint_is : (marks : List MarkSet) (s : LiveState) → IsPainting (fitted s) (paint_course marks s)
unfolding paint_course
paint_is marks s = paints_are marks (hands_in s) (fitted s)

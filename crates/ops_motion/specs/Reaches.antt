-- How far chains of jumpers and comments go: as far as they need to, within their reach.
use Rattle.std.specs.Prelude.{ℕ, ◌≡◌, ◌≢◌, ◌<◌, ◌≤◌, ◌==◌, false, List, [], ◌∷◌}
use Rattle.std.specs.List.{Contains}
use Rattle.orca_base.specs.declared.limits.TheConstants.{COMMENT_REACH, JUMP_REACH}
use Rattle.orca_base.specs.declared.now.Now.{Now}
use Rattle.orca_base.specs.declared.place.Place.{Place}
use Rattle.orca_base.specs.declared.place.Spot.{Spot}
use Rattle.orca_base.specs.Grids.{right}
use Rattle.orca_op.specs.State.{State, peek}
use Rattle.orca_op.specs.Deeds.{Deed, Write, input_at, lock_at}
use Rattle.orca_op.specs.Laws.{Every}
use Rattle.orca_op.specs.MotionRules.{commented, comment}

-- the spots that a chain goes through hold its glyph as far as the k-th, which holds another
abbrev pub EndsAt : ℕ → State → (ℕ → Spot) → ℕ → Type 0
EndsAt g s beyond k =
    ((j : ℕ) → 1 ≤ j → j < k → peek s (beyond j) ≡ g) × (peek s (beyond k) ≢ g)

-- the spots that a chain goes through hold its glyph as far as a jumper looks
abbrev pub HasNoEnd : ℕ → State → (ℕ → Spot) → Type 0
HasNoEnd g s beyond = (j : ℕ) → 1 ≤ j → j ≤ JUMP_REACH → peek s (beyond j) ≡ g

-- a chain hands the glyph of its source on to its end, where that lies within the reach
abbrev pub HandsOn : (ℕ → State → Place → Now → List Deed) → (Place → Spot)
    → (Place → ℕ → Spot) → Type 0
HandsOn rule source beyond =
    (g : ℕ) (s : State) (at : Place) (now : Now) (k : ℕ) → peek s (source at) ≢ g → 1 ≤ k
    → k ≤ JUMP_REACH → EndsAt g s (beyond at) k
    → Contains (rule g s at now) (Write (beyond at k) (peek s (source at)))

-- where a chain has no end within the reach, only its source is marked
abbrev pub MarksItsSource : (ℕ → State → Place → Now → List Deed) → (Place → Spot)
    → (Place → ℕ → Spot) → Type 0
MarksItsSource rule source beyond =
    (g : ℕ) (s : State) (at : Place) (now : Now) → peek s (source at) ≢ g
    → HasNoEnd g s (beyond at) → rule g s at now ≡ input_at (source at) ∷ []

-- no `#` stands between a place and the k-th place to its right
abbrev pub IsOpen : State → Place → ℕ → Type 0
IsOpen s at k = (j : ℕ) → 1 ≤ j → j < k → (peek s (right at j) == commented) ≡ false

-- the k-th place to the right lies within the reach of a comment, and no `#` stands before it
abbrev pub IsLocked : State → Place → ℕ → Type 0
IsLocked s at k = (1 ≤ k) × (k ≤ COMMENT_REACH) × IsOpen s at k

-- a comment locks each place to its right, up to and with the next `#`, within its reach
abbrev pub CommentsLock : Type 0
CommentsLock =
    (g : ℕ) (s : State) (at : Place) (now : Now) (k : ℕ) → IsLocked s at k
    → Contains (comment g s at now) (lock_at (right at k))

-- and it does nothing else
abbrev pub CommentsLockAlone : Type 0
CommentsLockAlone =
    (g : ℕ) (s : State) (at : Place) (now : Now)
    → Every (λ deed. (k : ℕ) × IsLocked s at k × (deed ≡ lock_at (right at k)))
    (comment g s at now)

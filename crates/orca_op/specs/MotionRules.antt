-- The rules of the movers, the jumpers, the halt, the bang and the comment.
use Rattle.std.specs.Prelude.{ℕ, ◌+◌, ◌-◌, ◌==◌, ◌&&◌, not, if◌then◌else◌, List, [], ◌∷◌, ◌++◌, Option, Some, None, unwrap_or}
use Rattle.orca_base.specs.declared.limits.TheConstants.{COMMENT_REACH, JUMP_REACH}
use Rattle.orca_base.specs.declared.now.Now.{Now}
use Rattle.orca_base.specs.declared.place.Place.{Place}
use Rattle.orca_base.specs.declared.place.Spot.{Spot}
use Rattle.orca_base.specs.Glyphs.{empty, bang}
use Rattle.orca_op.specs.State.{State, peek, holds}
use Rattle.orca_base.specs.Grids.{above, below, down, here, left, right}
use Rattle.orca_op.specs.Deeds.{Deed, Write, input_at, param_at, output_at, lock_at, sleep_at, each_below}
use Rattle.orca_op.specs.First.{first_where}

-- a mover goes on to the target where that is an empty place of the grid, and becomes a bang
-- otherwise
unfoldable pub move_to : ℕ → State → Place → Spot → List Deed
move_to g s at target =
    if holds s target && (peek s target == empty)
    then sleep_at target ∷ Write target g ∷ Write (here at) empty ∷ []
    else Write (here at) bang ∷ []

-- E: to the right
abbrev pub east : ℕ → State → Place → Now → List Deed
east g s at now = move_to g s at (right at 1)

-- N: upwards
abbrev pub north : ℕ → State → Place → Now → List Deed
north g s at now = move_to g s at (above at)

-- S: downwards
abbrev pub south : ℕ → State → Place → Now → List Deed
south g s at now = move_to g s at (below at)

-- W: to the left
abbrev pub west : ℕ → State → Place → Now → List Deed
west g s at now = move_to g s at (left at 1)

-- `*`: it is erased
abbrev pub bang_rule : ℕ → State → Place → Now → List Deed
bang_rule g s at now = Write (here at) empty ∷ []

-- H: the place below is a parameter, and so is not evaluated
abbrev pub halt : ℕ → State → Place → Now → List Deed
halt g s at now = param_at (below at) ∷ []

-- `#`, which begins a comment and ends it
abbrev pub commented : ℕ
commented = 35

-- how many places a comment locks: up to and with the next `#`, and at most its reach
unfoldable pub comment_length : State → Place → ℕ
comment_length s at =
    unwrap_or (first_where (λ i. peek s (right at i) == commented) 1 COMMENT_REACH) COMMENT_REACH

-- n places to the right are locked
abbrev pub lock_deeds : Place → ℕ → List Deed
lock_deeds at n = each_below n (λ i. lock_at (right at (i + 1)) ∷ [])

-- `#`: locks the places to its right
abbrev pub comment : ℕ → State → Place → Now → List Deed
comment g s at now = lock_deeds at (comment_length s at)

-- where the chain of a jumper's glyph ends: the number of the first place beyond it that holds
-- another
unfoldable pub chain_end : ℕ → State → (ℕ → Spot) → Option ℕ
chain_end g s beyond = first_where (λ i. not (peek s (beyond i) == g)) 1 JUMP_REACH

-- the first n places beyond a jumper are put to sleep
abbrev pub sleep_deeds : (ℕ → Spot) → ℕ → List Deed
sleep_deeds beyond n = each_below n (λ k. sleep_at (beyond (k + 1)) ∷ [])

-- a chain of jumpers hands the glyph of its source on to the place beyond its end
abbrev pub jump_by : ℕ → State → Spot → (ℕ → Spot) → Option ℕ → List Deed
jump_by g s source beyond None = input_at source ∷ []
jump_by g s source beyond (Some i) =
    input_at source ∷ sleep_deeds beyond (i - 1)
    ++ output_at (beyond i) ∷ Write (beyond i) (peek s source) ∷ []

-- only the first of a chain acts
unfoldable pub jump : ℕ → State → Spot → (ℕ → Spot) → List Deed
jump g s source beyond =
    if peek s source == g then [] else jump_by g s source beyond (chain_end g s beyond)

-- J: from above to below
abbrev pub jumper : ℕ → State → Place → Now → List Deed
jumper g s at now = jump g s (above at) (down at)

-- Y: from the left to the right
abbrev pub jymper : ℕ → State → Place → Now → List Deed
jymper g s at now = jump g s (left at 1) (right at)

-- The rules of the operators that read and write across the grid, and of the variables.
use Rattle.std.specs.Prelude.{ℕ, ◌+◌, ◌%◌, ◌==◌, if◌then◌else◌, List, [], ◌∷◌, ◌++◌, pos, ◌-ℤ◌}
use Rattle.orca_base.specs.declared.now.Now.{Now}
use Rattle.orca_base.specs.declared.place.Place.{Place}
use Rattle.orca_base.specs.declared.place.Spot.{Spot}
use Rattle.orca_base.specs.Glyphs.{empty, value}
use Rattle.orca_op.specs.State.{State, peek, var_at}
use Rattle.orca_base.specs.Grids.{off, below, left, right}
use Rattle.orca_op.specs.Deeds.{Deed, Write, Set, input_at, param_at, output_at, far_at, lock_at, each_below}
use Rattle.orca_op.specs.ValueRules.{value_or}

-- the spot x to the right and y + 1 rows below
abbrev pub target : Place → ℕ → ℕ → Spot
target at y x = off at (pos (y + 1)) (pos x)

-- the spot x + 1 to the right and y rows below
abbrev pub source : Place → ℕ → ℕ → Spot
source at y x = off at (pos y) (pos (x + 1))

-- the i-th place at the right is read, and its glyph is written at the i-th place of the target
abbrev pub generate_one : Place → ℕ → ℕ → ℕ → ℕ → List Deed
generate_one at y x i glyph =
    input_at (right at (i + 1)) ∷ far_at (target at y (x + i))
    ∷ Write (target at y (x + i)) glyph ∷ []

-- G: the glyphs at its right are written at the target
abbrev pub generator : ℕ → State → Place → Now → List Deed
generator g s at now =
    let x = value (peek s (left at 3)) in
    let y = value (peek s (left at 2)) in
    let length = value (peek s (left at 1)) in
    param_at (left at 3) ∷ param_at (left at 2) ∷ param_at (left at 1)
    ∷ each_below length (λ i. generate_one at y x i (peek s (right at (i + 1))))

-- X: the glyph at its right is written at the target
abbrev pub write_at : ℕ → State → Place → Now → List Deed
write_at g s at now =
    let x = value (peek s (left at 2)) in
    let y = value (peek s (left at 1)) in
    param_at (left at 2) ∷ param_at (left at 1) ∷ input_at (right at 1)
    ∷ far_at (target at y x) ∷ Write (target at y x) (peek s (right at 1)) ∷ []

-- O: the glyph at the source is written below
abbrev pub read_at : ℕ → State → Place → Now → List Deed
read_at g s at now =
    let x = value (peek s (left at 2)) in
    let y = value (peek s (left at 1)) in
    param_at (left at 2) ∷ param_at (left at 1) ∷ input_at (source at y x)
    ∷ output_at (below at) ∷ Write (below at) (peek s (source at y x)) ∷ []

-- the spot below where the i-th of n glyphs is written, the last one straight below the operator
abbrev pub below_by : Place → ℕ → ℕ → Spot
below_by at n i = off at (pos 1) (pos (i + 1) -ℤ pos n)

-- the i-th place of the source is read, and its glyph is written below
abbrev pub query_one : Place → ℕ → ℕ → ℕ → ℕ → ℕ → List Deed
query_one at y x length i glyph =
    input_at (source at y (x + i)) ∷ output_at (below_by at length i)
    ∷ Write (below_by at length i) glyph ∷ []

-- Q: the glyphs at the source are written below
abbrev pub query : ℕ → State → Place → Now → List Deed
query g s at now =
    let x = value (peek s (left at 3)) in
    let y = value (peek s (left at 2)) in
    let length = value (peek s (left at 1)) in
    param_at (left at 3) ∷ param_at (left at 2) ∷ param_at (left at 1)
    ∷ each_below length (λ i. query_one at y x length i (peek s (source at y (x + i))))

-- T: the glyph that the key chooses of those at its right is written below
abbrev pub track : ℕ → State → Place → Now → List Deed
track g s at now =
    let key = value (peek s (left at 2)) in
    let length = value_or (peek s (left at 1)) 1 in
    let chosen = right at (key % length + 1) in
    param_at (left at 2) ∷ param_at (left at 1)
    ∷ each_below length (λ i. lock_at (right at (i + 1)) ∷ [])
    ++ input_at chosen ∷ output_at (below at) ∷ Write (below at) (peek s chosen) ∷ []

-- P: the glyph at its right is written at the place below that the key chooses
abbrev pub push : ℕ → State → Place → Now → List Deed
push g s at now =
    let key = value (peek s (left at 2)) in
    let length = value_or (peek s (left at 1)) 1 in
    let chosen = off at (pos 1) (pos (key % length)) in
    param_at (left at 2) ∷ param_at (left at 1)
    ∷ each_below length (λ i. lock_at (off at (pos 1) (pos i)) ∷ [])
    ++ input_at (right at 1) ∷ output_at chosen ∷ Write chosen (peek s (right at 1)) ∷ []

-- V: sets the variable that is named at its left; where none is, writes below it the one that is
-- named at its right
abbrev pub variable : ℕ → State → Place → Now → List Deed
variable g s at now =
    let write = peek s (left at 1) in
    let read = peek s (right at 1) in
    param_at (left at 1) ∷ input_at (right at 1)
    ∷ (if write == empty
    then (if read == empty then []
    else output_at (below at) ∷ Write (below at) (var_at s (value read)) ∷ [])
    else Set (value write) read ∷ [])

-- the variable is written below its name, the i-th at the right; nothing is written where the name
-- is missing
unfoldable pub store_deeds : Place → ℕ → ℕ → ℕ → List Deed
store_deeds at i name stored =
    if name == empty then []
    else output_at (off at (pos 1) (pos i)) ∷ Write (off at (pos 1) (pos i)) stored ∷ []

-- the i-th place at the right is read, and the variable that it names is written below it
abbrev pub konkat_one : Place → ℕ → ℕ → ℕ → List Deed
konkat_one at i name stored = input_at (right at (i + 1)) ∷ store_deeds at (i + 1) name stored

-- K: the variables that are named at its right are written below
abbrev pub konkat : ℕ → State → Place → Now → List Deed
konkat g s at now =
    let name : ℕ → ℕ = λ i. peek s (right at (i + 1)) in
    param_at (left at 1)
    ∷ each_below (value_or (peek s (left at 1)) 1)
    (λ i. konkat_one at i (name i) (var_at s (value (name i))))

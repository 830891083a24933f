-- The deeds of K and of G for one of their places, by the state before the first of them.
use Rattle.std.specs.Prelude.{ℕ, ◌+◌, List, [], ◌∷◌}
use Rattle.orca_base.specs.declared.place.Place.{Place}
use Rattle.orca_base.specs.Glyphs.{value}
use Rattle.orca_base.specs.Grids.{right}
use Rattle.orca_op.specs.Deeds.{Deed, Write, output_at}
use Rattle.orca_op.specs.GridRules.{below_by, generate_one, konkat_one, store_deeds, target}
use Rattle.orca_op.specs.State.{State, peek, var_at}

-- the deeds for the i-th name
abbrev pub konkat_at : State → Place → ℕ → List Deed
konkat_at s at i =
    let name = peek s (right at (i + 1)) in
    konkat_one at i name (var_at s (value name))

-- the deeds for the i-th name after that is marked
abbrev pub store_at : State → Place → ℕ → List Deed
store_at s at i =
    let name = peek s (right at (i + 1)) in
    store_deeds at (i + 1) name (var_at s (value name))

-- the deeds for the i-th operand
abbrev pub generate_at : State → Place → ℕ → ℕ → ℕ → List Deed
generate_at s at y x i = generate_one at y x i (peek s (right at (i + 1)))

-- the i-th operand is written, after all are marked
abbrev pub copy_at : State → Place → ℕ → ℕ → ℕ → List Deed
copy_at s at y x i = Write (target at y (x + i)) (peek s (right at (i + 1))) ∷ []

-- the i-th operand of a query is written, after all sources are marked
abbrev pub gather_one : Place → ℕ → ℕ → ℕ → List Deed
gather_one at length i glyph =
    output_at (below_by at length i) ∷ Write (below_by at length i) glyph ∷ []

-- Checkpoints: the grids and the ticks of some moments of a history.
use Rattle.std.specs.Prelude.{ℕ, ◌+◌, ◌-◌, ◌*◌, ◌/◌, ◌%◌, ◌==◌, ◌≤◌, Bool, nat_le, min, if◌then◌else◌, List, [], ◌∷◌, ◌++◌, length, take, All}
use Rattle.orca_base.specs.declared.limits.TheConstants.{FIRST_SPACING, MAX_CHECKPOINTS}
use Rattle.orca_base.specs.Grids.{Sheet, IsSheet}

-- the grid and the tick of a moment
pub record Point : Type 0 where
  pub sheet : Sheet
  pub tick : ℕ

-- how many entries lie between two checkpoints, and what is kept: that of moment 0, of the moment
-- so many entries later, and so on
pub record Points : Type 0 where
  pub spacing : ℕ
  pub kept : List Point

-- what holds of all checkpoints: there is at least that of moment 0, there are at most
-- MAX_CHECKPOINTS, and each has a whole grid
pub record ArePoints (c : Points) : Type 0 where
  pub some : 1 ≤ length c.kept
  pub few : length c.kept ≤ MAX_CHECKPOINTS
  pub apart : FIRST_SPACING ≤ c.spacing
  pub whole : All (λ p. IsSheet p.sheet) c.kept

-- an opened grid
abbrev pub points_at_start : Sheet → Points
points_at_start sheet = record {
  spacing = FIRST_SPACING;
  kept = record { sheet = sheet; tick = 0 } ∷ [];
}

-- a checkpoint is due where the spacing divides the moment
abbrev pub is_point_due : Points → ℕ → Bool
is_point_due c moment = moment % c.spacing == 0

-- the next moment that is due
abbrev pub next_moment : Points → ℕ
next_moment c = length c.kept * c.spacing

-- the first of a list, the third, and so on
abbrev pub every_second : List Point → List Point
every_second [] = []
every_second (p ∷ []) = p ∷ []
every_second (p ∷ q ∷ ps) = p ∷ every_second ps

-- one more is kept; where those are too many, the spacing doubles, and every second one stays
abbrev pub points_kept : Points → Point → Points
points_kept c p =
    let all : List Point = c.kept ++ p ∷ [] in
    if nat_le (length all) MAX_CHECKPOINTS then record { spacing = c.spacing; kept = all }
    else record { spacing = 2 * c.spacing; kept = every_second all }

-- those up to a moment
abbrev pub points_dropped : Points → ℕ → Points
points_dropped c moment = record {
  spacing = c.spacing;
  kept = take (moment / c.spacing + 1) c.kept;
}

-- the number of the last one at a moment or before it
abbrev pub best_of : Points → ℕ → ℕ
best_of c moment = min (moment / c.spacing) (length c.kept - 1)

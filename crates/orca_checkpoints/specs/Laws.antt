-- What holds of the checkpoints of a history, whatever was done to it.
use Rattle.std.specs.Prelude.{ℕ, ◌+◌, ◌*◌, ◌/◌, ◌==◌, ◌<◌, ◌≤◌, ◌≡◌, ◌⊎◌, true, if◌then◌else◌, length, Some, slice_get}
use Rattle.orca_base.specs.declared.limits.TheConstants.{FIRST_SPACING, MAX_CHECKPOINTS}
use Rattle.orca_base.specs.Grids.{Sheet}
use Rattle.orca_checkpoints.specs.Points.{ArePoints, Point, Points, best_of, is_point_due, next_moment, points_at_start, points_dropped, points_kept}

-- the checkpoints of a history of so many entries, which once had `peak`: each is what the function
-- gives to its moment, they reach as far as the history, and the spacing is that of the start or at
-- most a 32nd of the peak
pub record AreOf (at : ℕ → Point) (len peak : ℕ) (c : Points) : Type 0 where
  pub each : (k : ℕ) → k < length c.kept → slice_get c.kept k ≡ Some (at (k * c.spacing))
  pub reach : length c.kept ≡ len / c.spacing + 1
  pub apart : FIRST_SPACING ≤ c.spacing
  pub near : (c.spacing ≡ FIRST_SPACING) ⊎ (32 * c.spacing ≤ peak)

-- an opened grid
abbrev pub StartLaw : Type 0
StartLaw =
    (at : ℕ → Point) (sheet : Sheet) (peak : ℕ) → at 0 ≡ record { sheet = sheet; tick = 0 }
    → AreOf at 0 peak (points_at_start sheet)

-- the checkpoints once the history has come to so many entries: that of this moment is kept where
-- it is due
abbrev pub points_after : Points → ℕ → Point → Points
points_after c len p = if is_point_due c len then points_kept c p else c

-- one entry more
abbrev pub NextLaw : Type 0
NextLaw =
    (at new : ℕ → Point) (len peak most : ℕ) (c : Points) → AreOf at len peak c
    → ((k : ℕ) → k ≤ len → new k ≡ at k) → peak ≤ most → len + 1 ≤ most
    → (is_point_due c (len + 1) ≡ true → len + 1 ≡ next_moment c)
    × AreOf new (len + 1) most (points_after c (len + 1) (new (len + 1)))

-- fewer entries
abbrev pub DroppedLaw : Type 0
DroppedLaw =
    (at new : ℕ → Point) (len moment peak : ℕ) (c : Points) → AreOf at len peak c → moment ≤ len
    → ((k : ℕ) → k ≤ moment → new k ≡ at k) → AreOf new moment peak (points_dropped c moment)

-- the best one of a moment is that of the greatest multiple of the spacing up to it
abbrev pub BestLaw : Type 0
BestLaw =
    (at : ℕ → Point) (len moment peak : ℕ) (c : Points) → AreOf at len peak c → moment ≤ len
    → (best_of c moment ≡ moment / c.spacing)
    × (slice_get c.kept (best_of c moment) ≡ Some (at (moment / c.spacing * c.spacing)))

-- the spacing doubles where the history comes to MAX_CHECKPOINTS times the spacing
abbrev pub SpacingLaw : Type 0
SpacingLaw =
    (at : ℕ → Point) (len peak : ℕ) (c : Points) (p : Point) → AreOf at len peak c → ArePoints c
    → (points_after c (len + 1) p).spacing
    ≡ (if len + 1 == MAX_CHECKPOINTS * c.spacing then 2 * c.spacing else c.spacing)

-- What was before a change, and what going back makes of a grid and of a slate.
use Rattle.std.specs.Prelude.{ℕ, ◌≡◌, true, false, if◌then◌else◌, List, [], ◌∷◌, All}
use Rattle.std.specs.List.{IsDistinct}
use Rattle.orca_base.specs.declared.change.Change.{Change}
use Rattle.orca_base.specs.declared.place.Place.{Place}
use Rattle.orca_base.specs.Grids.{Size, IsSize, Sheet, IsSheet, IsInside, glyph_at, is_inside, is_place, sheet_by}
use Rattle.orca_op.specs.Slate.{Slate, IsSlate, changes_of, is_listed}
use Rattle.orca_op.specs.State.{sheet_of}
use Rattle.orca_board.specs.Blocks.{slate_after_edit}
use Rattle.orca_board.specs.Listing.{places_of}
use Rattle.orca_board.specs.Sizes.{slate_after_resize}

-- the size and the tick before a change, and the old glyph of each place that it wrote or cut off
pub record Before : Type 0 where
  pub dims : Size
  pub tick : ℕ
  pub changes : List Change

-- the places of the changes lie in a grid of the size before, and none stands twice
pub record IsPatch (b : Before) : Type 0 where
  pub size : IsSize b.dims
  pub inside : All (IsInside b.dims) (places_of b.changes)
  pub once : IsDistinct is_place (places_of b.changes)

-- the old glyph that is listed for a place, and another glyph if none is
abbrev pub old_glyph : List Change → Place → ℕ → ℕ
old_glyph [] at other = other
old_glyph (change ∷ changes) at other =
    if is_place at change.at then change.old else old_glyph changes at other

-- going back: each listed place holds its old glyph, and every other place its glyph in the grid
abbrev pub sheet_before : Before → Sheet → Sheet
sheet_before b g = sheet_by b.dims (λ at. old_glyph b.changes at (glyph_at g at))

-- each place of the size before that lies outside a grid of this size is listed
abbrev pub CoversCut : Before → Size → Type 0
CoversCut b d =
    (at : Place) → IsInside b.dims at → is_inside d at ≡ false
    → is_listed (places_of b.changes) at ≡ true

-- the patch of what a slate lists, at a tick
abbrev pub before_of : Slate → ℕ → Before
before_of d tick = record { dims = d.began.dims; tick = tick; changes = changes_of d }

-- going back on a slate: the size before, and then each listed place is written
abbrev pub slate_before : Before → Slate → Slate
slate_before b d =
    slate_after_edit (slate_after_resize d b.dims) (sheet_before b (sheet_of d.scan))
    (places_of b.changes)

-- the inverse law: the patch of what a slate lists makes of its grid the grid of the last `begin`,
-- and each place that was cut off is listed in it
abbrev pub InverseLaw : Type 0
InverseLaw =
    (d : Slate) (tick : ℕ) → IsSlate d
    → (sheet_before (before_of d tick) (sheet_of d.scan) ≡ d.began)
    × CoversCut (before_of d tick) d.scan.dims

-- the grid before, where the patch is that of what a slate lists, and the grid is the slate's: that of
-- the last `begin`
abbrev pub GoesBack : Before → Sheet → Sheet → Type 0
GoesBack patch now before =
    (d : Slate) (tick : ℕ) → IsSlate d → patch ≡ before_of d tick → now ≡ sheet_of d.scan
    → before ≡ d.began

-- what a slate lists makes a patch: its places lie in the grid of the last `begin`, and none stands
-- twice
abbrev pub ListedLaw : Type 0
ListedLaw =
    (d : Slate) → IsSlate d
    → All (IsInside d.began.dims) (places_of (changes_of d))
    × IsDistinct is_place (places_of (changes_of d))

-- the patch of no change at a tick, for a grid of this size
abbrev pub no_change : Size → ℕ → Before
no_change d tick = record { dims = d; tick = tick; changes = [] }

-- the patch of no change leaves a grid of its size as it is
abbrev pub NoChangeLaw : Type 0
NoChangeLaw =
    (g : Sheet) (tick : ℕ) → IsSheet g
    → (sheet_before (no_change g.dims tick) g ≡ g) × CoversCut (no_change g.dims tick) g.dims

-- The laws that the rule of each operator meets.
use Rattle.std.specs.Prelude.{ℕ, ◌≡◌, ◌≤◌, ◌⊎◌, Bool, true, false, ◌||◌, List, [], ◌∷◌, length, count_by, IsTrue}
use Rattle.std.specs.List.{AllByRecursion}
use Rattle.orca_base.specs.declared.limits.TheConstants.{MAX_DEEDS}
use Rattle.orca_base.specs.declared.now.Now.{Now}
use Rattle.orca_base.specs.declared.place.Place.{Place}
use Rattle.orca_base.specs.declared.place.Spot.{Spot}
use Rattle.orca_base.specs.EventRanges.{IsInRange}
use Rattle.orca_base.specs.Glyphs.{IsGlyph}
use Rattle.orca_op.specs.State.{State, IsState}
use Rattle.orca_base.specs.Grids.{here}
use Rattle.orca_op.specs.Deeds.{Deed, Mark, Write, Set, Emit}

abbrev pub is_emit : Deed → Bool
is_emit (Mark at marks) = false
is_emit (Write at glyph) = false
is_emit (Set variable glyph) = false
is_emit (Emit event) = true

-- every deed of the list
abbrev pub Every : (Deed → Type 0) → List Deed → Type 0
Every P deeds = AllByRecursion P deeds

-- some deed of the list
abbrev pub AnyDeed : (Deed → Type 0) → List Deed → Type 0
AnyDeed P [] = ⊥
AnyDeed P (deed ∷ deeds) = P deed ⊎ AnyDeed P deeds

-- a written glyph is a glyph, also where it goes into a variable
abbrev pub WritesGlyph : Deed → Type 0
WritesGlyph (Mark at marks) = Unit {0}
WritesGlyph (Write at glyph) = IsGlyph glyph
WritesGlyph (Set variable glyph) = IsGlyph glyph
WritesGlyph (Emit event) = Unit {0}

-- an event that is sent is in range
abbrev pub EmitsInRange : Deed → Type 0
EmitsInRange (Mark at marks) = Unit {0}
EmitsInRange (Write at glyph) = Unit {0}
EmitsInRange (Set variable glyph) = Unit {0}
EmitsInRange (Emit event) = IsInRange event

-- the deed locks the spot or puts it to sleep
abbrev pub Covers : Spot → Deed → Type 0
Covers spot (Mark at marks) = (at ≡ spot) × IsTrue (marks.lock || marks.sleep)
Covers spot (Write at glyph) = ⊥
Covers spot (Set variable glyph) = ⊥
Covers spot (Emit event) = ⊥

-- a write to another place comes with Lock or Sleep on that place
abbrev pub IsCovered : Place → List Deed → Deed → Type 0
IsCovered at deeds (Mark spot marks) = Unit {0}
IsCovered at deeds (Write spot glyph) = (spot ≡ here at) ⊎ AnyDeed (Covers spot) deeds
IsCovered at deeds (Set variable glyph) = Unit {0}
IsCovered at deeds (Emit event) = Unit {0}

-- the laws of a rule
pub record IsLawful (rule : ℕ → State → Place → Now → List Deed) : Type 0 where
  pub few_deeds : (g : ℕ) (s : State) (at : Place) (now : Now)
      → length (rule g s at now) ≤ MAX_DEEDS
  pub one_event : (g : ℕ) (s : State) (at : Place) (now : Now)
      → count_by is_emit (rule g s at now) ≤ 1
  pub glyphs : (g : ℕ) (s : State) (at : Place) (now : Now) → IsState s → IsGlyph g
      → Every WritesGlyph (rule g s at now)
  pub covered : (g : ℕ) (s : State) (at : Place) (now : Now)
      → Every (IsCovered at (rule g s at now)) (rule g s at now)
  pub events : (g : ℕ) (s : State) (at : Place) (now : Now) → IsState s
      → Every EmitsInRange (rule g s at now)

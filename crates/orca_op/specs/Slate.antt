-- A slate is what a contract sees of a bench: the state of the scan, the grid at the last `begin`,
-- and the places that were written since.
use Rattle.std.specs.Prelude.{ℕ, ◌+◌, ◌≡◌, ◌<◌, Bool, false, not, ◌&&◌, if◌then◌else◌, List, [], ◌∷◌, ◌++◌, length, map, count_by, Option, Some, None, All}
use Rattle.std.specs.List.{list_any, IsDistinct}
use Rattle.orca_base.specs.declared.change.Change.{Change}
use Rattle.orca_base.specs.declared.place.Place.{Place}
use Rattle.orca_base.specs.Grids.{Size, Sheet, IsSheet, IsInside, cells_of, glyph_at as glyph_on, is_inside, is_place, place_in}
use Rattle.orca_base.specs.MarkSet.{is_marked}
use Rattle.orca_op.specs.State.{State, IsState, sheet_of, fresh, state_glyph}
use Rattle.orca_op.specs.Deeds.{Deed, Mark, Write, Set, Emit, after}

pub record Slate : Type 0 where
  pub scan : State
  pub began : Sheet
  pub listed : List Place

-- the place is among these
abbrev pub is_listed : List Place → Place → Bool
is_listed listed at = list_any (is_place at) listed

-- the place is listed once, where it lay in the grid at the last `begin`
abbrev pub list_with : Size → List Place → Option Place → List Place
list_with began listed None = listed
list_with began listed (Some at) =
    if is_inside began at && not (is_listed listed at) then listed ++ at ∷ [] else listed

-- the places listed after a deed: a write in the grid lists its place
unfoldable pub list_after : Size → Size → List Place → Deed → List Place
list_after began dims listed (Mark at marks) = listed
list_after began dims listed (Write at glyph) = list_with began listed (place_in dims at)
list_after began dims listed (Set variable glyph) = listed
list_after began dims listed (Emit event) = listed

-- the places listed after deeds, in order
abbrev pub list_after_all : Size → Size → List Place → List Deed → List Place
list_after_all began dims listed [] = listed
list_after_all began dims listed (deed ∷ deeds) =
    list_after_all began dims (list_after began dims listed deed) deeds

-- the slate after a deed
abbrev pub slate_after : Slate → Deed → Slate
slate_after d deed = record {
  scan = after d.scan deed;
  began = d.began;
  listed = list_after d.began.dims d.scan.dims d.listed deed;
}

-- the slate after deeds, in order
abbrev pub slate_after_all : Slate → List Deed → Slate
slate_after_all d [] = d
slate_after_all d (deed ∷ deeds) = slate_after_all (slate_after d deed) deeds

-- there is room for an event: fewer are listed than the grid has places
abbrev pub HasEventRoom : Slate → Type 0
HasEventRoom d = length d.scan.events < cells_of d.scan.dims

-- how much a `begin` has to clear: the marked places and the listed ones
unfoldable pub residue : Slate → ℕ
residue d = count_by is_marked d.scan.marks + length d.listed

-- the slate of a grid at the start of a frame
abbrev pub slate_of_sheet : Sheet → Slate
slate_of_sheet g = record { scan = fresh g; began = g; listed = [] }

-- the slate as a frame begins
abbrev pub slate_at_begin : Slate → Slate
slate_at_begin d = slate_of_sheet (sheet_of d.scan)

-- what was changed since the last `begin`: each listed place, with its glyph of that moment
abbrev pub changes_of : Slate → List Change
changes_of d = map (λ at. record { at = at; old = glyph_on d.began at }) d.listed

-- a place that isn't listed still lies in the grid, and holds its glyph of the last `begin`
abbrev pub KeepsUnlisted : Slate → Type 0
KeepsUnlisted d =
    (at : Place) → IsInside d.began.dims at → is_listed d.listed at ≡ false
    → IsInside d.scan.dims at × (state_glyph d.scan at ≡ glyph_on d.began at)

-- what holds of every bench: its state, the grid at the last `begin`, and each listed place once
pub record IsSlate (d : Slate) : Type 0 where
  pub state : IsState d.scan
  pub began : IsSheet d.began
  pub inside : All (IsInside d.began.dims) d.listed
  pub once : IsDistinct is_place d.listed
  pub kept : KeepsUnlisted d

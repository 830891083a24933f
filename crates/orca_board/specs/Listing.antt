-- The places that were written since the last `begin`, each once, with its glyph of that moment.
use Rattle.std.specs.Prelude.{ℕ, ◌≡◌, ◌≤◌, ◌<◌, ◌==◌, ◌&&◌, Bool, false, not, List, [], ◌∷◌, ◌++◌, All, length, map, count_by, slice_index_or, if◌then◌else◌}
use Rattle.std.specs.List.{list_any}
use Rattle.orca_base.specs.declared.change.Change.{Change}
use Rattle.orca_base.specs.declared.limits.TheConstants.{MAX_CELLS}
use Rattle.orca_base.specs.declared.place.Place.{Place}
use Rattle.orca_base.specs.Grids.{Size, IsInside, index_of, is_inside, largest}
use Rattle.orca_op.specs.Slate.{Slate, IsSlate, changes_of, is_listed}

-- the size at the last `begin`, and the changes since, in the order in which their places were
-- first written
pub record Listed : Type 0 where
  pub began : Size
  pub changes : List Change

-- the places of changes
abbrev pub places_of : List Change → List Place
places_of changes = map (λ change. change.at) changes

-- a change is listed once, where its place lay in the grid at the last `begin`
abbrev pub changes_with : Size → List Change → Place → ℕ → List Change
changes_with began changes at old =
    if is_inside began at && not (is_listed (places_of changes) at)
    then changes ++ record { at = at; old = old } ∷ []
    else changes

-- a place among these has this number in the largest grid
abbrev pub has_number : List Place → ℕ → Bool
has_number places i = list_any (λ place. i == index_of largest place) places

-- the flags that are set are those of the listed places; there is room for every place of a grid
pub record IsFlagged (changes : List Change) (flags : List Bool) (room : ℕ) : Type 0 where
  pub size : length flags ≡ MAX_CELLS
  pub counted : length changes ≡ count_by (λ flag. flag) flags
  pub only : (i : ℕ) → slice_index_or flags i false ≡ has_number (places_of changes) i
  pub inside : All (IsInside largest) (places_of changes)
  pub roomy : MAX_CELLS ≤ room

-- a place is flagged where it was listed in this round
abbrev pub flags_of : ℕ → List ℕ → List Bool
flags_of round rounds = map (λ r. r == round) rounds

-- the places that were listed in this round are those of the changes, and none was in a later one
pub record IsRounded (changes : List Change) (rounds : List ℕ) (round room : ℕ) : Type 0 where
  pub size : length rounds ≡ MAX_CELLS
  pub flagged : IsFlagged changes (flags_of round rounds) room
  pub some : 0 < round
  pub past : (i : ℕ) → slice_index_or rounds i 0 ≤ round

-- the changes are those of a slate
pub record ListsChanges (d : Slate) (known : List Change) : Type 0 where
  pub slate : IsSlate d
  pub changes : known ≡ changes_of d

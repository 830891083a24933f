-- The entries of a history, and which of them are edits.
use Rattle.std.specs.Prelude.{ℕ, suc, ◌+◌, Bool, true, false, not, ◌&&◌, nat_le, if◌then◌else◌, List, [], ◌∷◌, Option, Some, None, filter, length, take_while}
use Rattle.std.specs.List.{list_any, sum}
use Rattle.std.specs.Option.{option_map_or}
use Rattle.orca_base.specs.declared.command.Entry.{Entry}
use Rattle.orca_base.specs.declared.command.Entry.TheVariants.{Resize, Reset, Frame, Hush}
use Rattle.orca_base.specs.declared.limits.TheConstants.{KEPT_PATCHES, KEPT_TOUCHED}

-- each entry is an edit, but for a frame and the end of a jump
abbrev pub is_edit : Entry → Bool
is_edit Frame = false
is_edit Hush = false
is_edit _ = true

-- an edit of the grid: any edit but a Reset, which is about time
abbrev pub edits_grid : Entry → Bool
edits_grid Reset = false
edits_grid entry = is_edit entry

-- a change of size
abbrev pub sets_size : Entry → Bool
sets_size (Resize dims) = true
sets_size _ = false

-- a change of size first, and after it an edit of the grid, which may not fit another size
abbrev pub is_size_used : List Entry → Bool
is_size_used [] = false
is_size_used (entry ∷ entries) = sets_size entry && list_any edits_grid entries

-- the place of the last edit in a history
abbrev pub last_edit : List Entry → Option ℕ
last_edit [] = None
last_edit (entry ∷ entries) =
    option_map_or (λ i. Some (suc i)) (last_edit entries) (if is_edit entry then Some 0 else None)

-- the entry is no end of a jump
abbrev pub is_done : Entry → Bool
is_done Hush = false
is_done _ = true

-- what was done: the entries without the ends of jumps
abbrev pub done_of : List Entry → List Entry
done_of entries = filter is_done entries

-- how many entries a redo brings back: the first one of those that were cut off, and all after it
-- up to the next edit
abbrev pub group_of : List Entry → ℕ
group_of [] = 0
group_of (entry ∷ entries) = 1 + length (take_while (λ e. not (is_edit e)) entries)

-- entries that touched so many cells each may keep their patches together: at most KEPT_PATCHES of
-- them, which touched at most KEPT_TOUCHED cells
abbrev pub few_touched : List ℕ → Bool
few_touched touched =
    nat_le (length touched) KEPT_PATCHES && nat_le (sum touched) KEPT_TOUCHED

-- how many of the oldest entries give up their patches, so that the others may keep theirs: as few
-- as serve
abbrev pub worn_of : List ℕ → ℕ
worn_of [] = 0
worn_of (n ∷ ns) = if few_touched (n ∷ ns) then 0 else 1 + worn_of ns

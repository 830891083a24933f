-- The edits that a Retract may take out.
use Rattle.std.proofs.Common.{◌≡◌, ℕ, zero, suc, ◌&&◌, false, drop, List, [], ◌∷◌, refl}
use Rattle.std.specs.Prelude.{not, slice_get}
use Rattle.std.specs.Option.{option_map_or}
use Rattle.orca_base.specs.Histories.{edits_grid, is_size_used}
use Rattle.orca_base.specs.declared.command.Entry.{Entry}
use Rattle.orca_edit.specs.Machines.{is_free_edit}

-- one of them by its number
pub free_edit : (entries : List Entry) (n : ℕ)
    → (option_map_or edits_grid (slice_get entries n) false && not (is_size_used (drop n entries)))
    ≡ is_free_edit (drop n entries)
free_edit [] zero = refl
free_edit [] (suc n) = refl
free_edit (entry ∷ entries) zero = refl
free_edit (entry ∷ entries) (suc n) = free_edit entries n

-- The names of the operators stand in two tables.
use Rattle.std.proofs.Common.{◌≡◌, ◌==◌, ℕ, Bool, true, false, List, [], ◌∷◌, ◌++◌, refl}
use Rattle.std.specs.Prelude.{if◌then◌else◌, Option, Some}
use Rattle.std.specs.Option.{option_or}
use Rattle.orca_term.specs.Keys.{found_in}

-- a table and a further one
pub found_in_either : (rows others : List (ℕ × List ℕ)) (n : ℕ)
    → found_in (rows ++ others) n ≡ option_or (found_in rows n) (found_in others n)
found_in_either [] others n = refl
found_in_either (row ∷ rows) others n =
    or_else (n == row.0) row.1 (found_in (rows ++ others) n) (found_in rows n)
    (found_in others n) (found_in_either rows others n)
  where
    or_else : (b : Bool) (name : List ℕ) (all first second : Option (List ℕ))
        → all ≡ option_or first second
        → (if b then Some name else all) ≡ option_or (if b then Some name else first) second
    or_else true name all first second same = refl
    or_else false name all first second same = same

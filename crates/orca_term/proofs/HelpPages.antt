-- The rows of the pages of help can be shown.
use Rattle.std.proofs.Common.{◌≡◌, ◌==◌, ℕ, zero, suc, Bool, true, false, List, [], ◌∷◌, refl, arith}
use Rattle.std.specs.Prelude.{if◌then◌else◌, slice_get}
use Rattle.std.specs.Bool.{Decides}
use Rattle.std.specs.List.{All, list_all}
use Rattle.std.specs.Option.{option_map_or}
use Rattle.std.proofs.lemmas.Bool.{and_parts}
use Rattle.std.proofs.lemmas.Bool.Decides.{Decides-by_and, nat_tests}
use Rattle.orca_term.specs.Forms.{is_shown}
use Rattle.orca_term.specs.Help.{page_line}
use Rattle.orca_term.specs.Picture.{IsPrintableByte}
use Rattle.orca_term.specs.declared.help.TheConstants.{KEYS_PAGE, OPERATORS_PAGE}

-- the test of a byte, and of a row
shows : (byte : ℕ) → Decides (is_shown byte) (IsPrintableByte byte)
shows byte = grind (arith, nat_tests)

row_shows : (row : List ℕ) → Decides (list_all is_shown row) (All IsPrintableByte row)
row_shows row =
    Decides-by_and is_shown IsPrintableByte (list_all is_shown) shows refl (λ _ _. refl) row

-- a row of those that pass
one_of : {R : Type 0} (text : R → List ℕ) (rows : List R) (y : ℕ)
    → list_all (λ row. list_all is_shown (text row)) rows ≡ true
    → list_all is_shown (option_map_or text (slice_get rows y) []) ≡ true
one_of text [] y all = refl
one_of text (row ∷ rows) zero all = (and_parts _ _ all).0
one_of text (row ∷ rows) (suc y) all = one_of text rows y (and_parts _ _ all).1

by_page : (b : Bool) (y : ℕ)
    → list_all is_shown (option_map_or (λ row. row.now)
    (slice_get (if b then KEYS_PAGE else OPERATORS_PAGE) y) []) ≡ true
by_page true y = one_of (λ row. row.now) KEYS_PAGE y refl
by_page false y = one_of (λ row. row.now) OPERATORS_PAGE y refl

pub page_legible : (page y : ℕ) → All IsPrintableByte (page_line page y)
page_legible page y = (row_shows (page_line page y)).0 (by_page (page == 1) y)

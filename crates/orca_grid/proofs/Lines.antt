-- Cell bytes are the line that they stand in.
use Rattle.std.proofs.Common.{◌≡◌, ℕ, ◌-◌, ◌≤◌, ◌<◌, true, false, eqb, List, [], ◌∷◌, ◌++◌, length, get_or, suc, refl, sym, ap, ◌∙◌, arith, append_assoc}
use Rattle.std.specs.List.{All, AllPass, slice_split}
use Rattle.std.specs.Str.Lines.{lines, lines_of_parts, strip_carriage_return}
use Rattle.std.proofs.lemmas.Bool.{ne_eqb, eq-eqb, cond-true, cond-false}
use Rattle.std.proofs.lemmas.Bool.Decides.{nat_tests}
use Rattle.std.proofs.lemmas.List.{length_push, get_or_push, take_at}
use Rattle.std.proofs.lemmas.List.Elements.{All-weaker, All-push}
use Rattle.std.proofs.lemmas.List.Splits.{slice_split_none, slice_split_at, length-slice_split}
use Rattle.orca_grid.specs.GridText.{is_cell, is_line_feed}

cell-low : (b : ℕ) → is_cell b ≡ true → 32 ≤ b
cell-low b cell = grind (arith, nat_tests)

pub cell_is_no_end : (b : ℕ) → is_cell b ≡ true → is_line_feed b ≡ false
cell_is_no_end b cell = ne_eqb b 10 (λ (e : b ≡ 10). omega (arith, cell-low b cell))

no_ends : (row : List ℕ) → AllPass is_cell row → All (λ b. eqb b 10 ≡ false) row
no_ends row cells = All-weaker _ _ cell_is_no_end row cells

strip-cells : (row : List ℕ) → AllPass is_cell row → strip_carriage_return row ≡ row
strip-cells [] cells = refl
strip-cells (c ∷ row) cells =
    let last = get_or (c ∷ row) (suc (length row) - 1) 0 in
    let low : 32 ≤ last = cell-low last (cells (suc (length row) - 1) 0 (omega arith)) in
    cond-false _ _ _ (ne_eqb last 13 (λ (e : last ≡ 13). omega arith))

strip-return : (row : List ℕ) → strip_carriage_return (row ++ 13 ∷ []) ≡ row
strip-return row =
    let last : length (row ++ 13 ∷ []) - 1 ≡ length row = omega (arith, length_push row 13) in
    let ends = eq-eqb _ 13 (get_or_push row 13 0 (length row) refl) in
    rw last (cond-true _ _ _ ends ∙ take_at row (13 ∷ []) (length row) refl)

lines-part : (part : List ℕ) (parts : List (List ℕ)) → 0 < length parts
    → lines_of_parts (part ∷ parts) ≡ strip_carriage_return part ∷ lines_of_parts parts
lines-part part [] some = absurd (omega (arith, some))
lines-part part (p ∷ parts) some = refl

-- up to the first line feed
lines-at : (row bytes : List ℕ) → All (λ b. eqb b 10 ≡ false) row
    → lines (row ++ 10 ∷ bytes) ≡ strip_carriage_return row ∷ lines bytes
lines-at row bytes none =
    let parts = slice_split (λ b. eqb b 10) bytes in
    let some : 0 < length parts = omega (arith, length-slice_split (λ b. eqb b 10) bytes) in
    ap lines_of_parts (slice_split_at (λ b. eqb b 10) row 10 bytes none refl)
    ∙ lines-part row parts some

pub lines-ended : (row bytes : List ℕ) → AllPass is_cell row
    → lines (row ++ 10 ∷ bytes) ≡ row ∷ lines bytes
lines-ended row bytes cells =
    rw (lines-at row bytes (no_ends row cells), strip-cells row cells) refl

pub lines-returned : (row bytes : List ℕ) → AllPass is_cell row
    → lines (row ++ 13 ∷ 10 ∷ bytes) ≡ row ∷ lines bytes
lines-returned row bytes cells =
    let ends = All-push (λ b. eqb b 10 ≡ false) row 13 (no_ends row cells) refl in
    ap lines (sym (append_assoc row (13 ∷ []) (10 ∷ bytes)))
    ∙ rw (lines-at (row ++ 13 ∷ []) bytes ends, strip-return row) refl

-- what stands after the last end of a row is a row where it isn't empty
abbrev pub last_row : List ℕ → List (List ℕ)
last_row [] = []
last_row (c ∷ row) = (c ∷ row) ∷ []

pub lines-last : (row : List ℕ) → AllPass is_cell row → lines row ≡ last_row row
lines-last [] cells = refl
lines-last (c ∷ row) cells =
    ap lines_of_parts (slice_split_none (λ b. eqb b 10) (c ∷ row) (no_ends (c ∷ row) cells))
    ∙ cond-false _ _ _ (ne_eqb (suc (length row)) 0 (λ e. omega (arith, e)))

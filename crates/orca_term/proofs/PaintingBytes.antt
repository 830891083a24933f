-- The bytes of what is painted.
use Rattle.std.proofs.Common.{◌≡◌, ℕ, zero, suc, ◌+◌, ◌<◌, ◌≤◌, List, [], ◌∷◌, ◌++◌, length, get_or, drop, refl, sym, ap, ◌∙◌, arith, add-one, add-zero, append_assoc}
use Rattle.std.specs.Fmt.{decimal}
use Rattle.std.specs.List.{flat_map, range_with_len}
use Rattle.std.proofs.lemmas.List.{append-nil, drop_more, drop_all}
use Rattle.std.proofs.lemmas.Bool.{ne_eqb, eq-eqb}
use Rattle.std.proofs.lemmas.Fmt.{decimal_digit}
use Rattle.std.proofs.lemmas.Grind.{flat_map-append}
use Rattle.orca_term.specs.Codes.{introducer}
use Rattle.orca_term.specs.Forms.{bytes_of, bytes_of_form}
use Rattle.orca_term.specs.declared.forms.Form.{Form}
use Rattle.orca_term.specs.declared.forms.Form.TheVariants.{Style, Show}
use Rattle.orca_term.specs.Painting.{style_change, painted_cells, painted_row}
use Rattle.orca_term.specs.declared.cell.Cell.{Cell}

pub bytes_of-append : (xs ys : List Form) → bytes_of (xs ++ ys) ≡ bytes_of xs ++ bytes_of ys
unfolding bytes_of
bytes_of-append xs ys = flat_map-append bytes_of_form xs ys

pub bytes_of-nil : bytes_of [] ≡ []
unfolding bytes_of
bytes_of-nil = refl

-- `ESC [ 0 m`
abbrev pub plain_bytes : List ℕ
plain_bytes = 27 ∷ 91 ∷ 48 ∷ 109 ∷ []

pub bytes_of-plain : bytes_of (Style 0 ∷ []) ≡ plain_bytes
unfolding bytes_of
bytes_of-plain = rw (decimal_digit 0 (omega arith)) refl

pub style_change-same : (old new : ℕ) → old ≡ new → bytes_of (style_change old new) ≡ []
unfolding bytes_of style_change
style_change-same old new e = rw (e, eq-eqb new new refl) refl

pub style_change-plain : (old new : ℕ) → (old ≡ new → ⊥) → new ≡ 0
    → bytes_of (style_change old new) ≡ plain_bytes
unfolding style_change
style_change-plain old new other e = rw (ne_eqb old new other, eq-eqb new 0 e) bytes_of-plain

pub style_change-new : (old new : ℕ) → (old ≡ new → ⊥) → (new ≡ 0 → ⊥)
    → bytes_of (style_change old new) ≡ plain_bytes ++ introducer ++ decimal new ++ 109 ∷ []
unfolding bytes_of style_change
style_change-new old new other some =
    rw (ne_eqb old new other, ne_eqb new 0 some, decimal_digit 0 (omega arith)) (simp append-nil)

pub bytes_of-show : (byte : ℕ) (forms : List Form)
    → bytes_of (Show byte ∷ forms) ≡ byte ∷ bytes_of forms
unfolding bytes_of
bytes_of-show byte forms = refl

pub painted_cells-step : (style : ℕ) (cell : Cell) (cells : List Cell)
    → bytes_of (painted_cells style (cell ∷ cells)) ≡ bytes_of (style_change style cell.style)
    ++ cell.byte ∷ bytes_of (painted_cells cell.style cells)
unfolding painted_cells
painted_cells-step style cell cells =
    bytes_of-append (style_change style cell.style)
    (Show cell.byte ∷ painted_cells cell.style cells)
    ∙ ap (λ bytes. bytes_of (style_change style cell.style) ++ bytes)
    (bytes_of-show cell.byte (painted_cells cell.style cells))

regrouped : (a b c d e : List ℕ) → (((a ++ b) ++ c) ++ d) ++ e ≡ (a ++ (b ++ c ++ d)) ++ e
regrouped a b c d e = simp append_assoc

pub painted_row-bytes : (y : ℕ) (cells : List Cell)
    → bytes_of (painted_row y cells) ≡ introducer ++ decimal (y + 1) ++ (59 ∷ 49 ∷ 72 ∷ plain_bytes)
    ++ bytes_of (painted_cells 0 cells)
unfolding bytes_of painted_row
painted_row-bytes y cells =
    rw (decimal_digit 1 (omega arith), decimal_digit 0 (omega arith))
    (ap (λ (bytes : List ℕ). 27 ∷ 91 ∷ bytes)
    (regrouped (decimal (y + 1)) (59 ∷ []) (49 ∷ []) (72 ∷ [])
    (plain_bytes ++ bytes_of (painted_cells 0 cells))
    ∙ (append_assoc (decimal (y + 1)) (59 ∷ 49 ∷ 72 ∷ [])
    (plain_bytes ++ bytes_of (painted_cells 0 cells))
    ∙ sym (append_assoc (decimal (y + 1)) (59 ∷ 49 ∷ 72 ∷ plain_bytes)
    (bytes_of (painted_cells 0 cells))))))

pub joined : (a b c d e : List ℕ) → (((a ++ b) ++ c) ++ d) ++ e ≡ a ++ (b ++ c ++ d ++ e)
joined a b c d e = simp append_assoc

-- a cell more of a row: the bytes so far, and those of what is left, are as before
pub cell_more : (style : ℕ) (cells : List Cell) (i : ℕ) (d : Cell) (front whole : List ℕ)
    → i < length cells → front ++ bytes_of (painted_cells style (drop i cells)) ≡ whole
    → (front ++ bytes_of (style_change style (get_or cells i d).style) ++ (get_or cells i d).byte
    ∷ []) ++ bytes_of (painted_cells (get_or cells i d).style (drop (i + 1) cells)) ≡ whole
cell_more style cells i d front whole h same =
    let cell = get_or cells i d in
    let rest = bytes_of (painted_cells cell.style (drop (i + 1) cells)) in
    append_assoc (front ++ bytes_of (style_change style cell.style)) (cell.byte ∷ []) rest
    ∙ (append_assoc front (bytes_of (style_change style cell.style)) (cell.byte ∷ rest)
    ∙ (ap (λ bytes. front ++ bytes) (sym (painted_cells-step style cell (drop (i + 1) cells)))
    ∙ (ap (λ cells. front ++ bytes_of (painted_cells style cells)) (sym (drop_more cells i d h))
    ∙ same)))

-- no cell is left
pub cells_all : (style : ℕ) (cells : List Cell) (i : ℕ) (front whole : List ℕ) → length cells ≤ i
    → front ++ bytes_of (painted_cells style (drop i cells)) ≡ whole → front ≡ whole
unfolding painted_cells bytes_of
cells_all style cells i front whole h same =
    sym (append-nil front)
    ∙ (ap (λ cells. front ++ bytes_of (painted_cells style cells)) (sym (drop_all i cells h))
    ∙ same)

-- a row more
pub flat_map-range : {A : Type 0} (f : ℕ → List A) (a n : ℕ)
    → flat_map f (range_with_len a (suc n)) ≡ flat_map f (range_with_len a n) ++ f (a + n)
flat_map-range f a zero = rw add-zero (append-nil (f a))
flat_map-range f a (suc n) =
    let next : a + 1 + n ≡ a + suc n = omega arith in
    ap (λ xs. f a ++ xs) (flat_map-range f (a + 1) n)
    ∙ (sym (append_assoc (f a) (flat_map f (range_with_len (a + 1) n)) (f (a + 1 + n)))
    ∙ ap (λ k. f a ++ flat_map f (range_with_len (a + 1) n) ++ f k) next)

pub rows_more : (f : ℕ → List Form) (y : ℕ)
    → bytes_of (flat_map f (range_with_len 0 (y + 1))) ≡ bytes_of (flat_map f (range_with_len 0 y))
    ++ bytes_of (f y)
rows_more f y =
    let from_zero : 0 + y ≡ y = omega arith in
    rw add-one (ap bytes_of (flat_map-range f 0 y
    ∙ ap (λ k. flat_map f (range_with_len 0 y) ++ f k) from_zero)
    ∙ bytes_of-append (flat_map f (range_with_len 0 y)) (f y))

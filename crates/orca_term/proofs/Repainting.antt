-- What a painting makes of a terminal.
use Rattle.std.proofs.Common.{◌≡◌, ℕ, zero, suc, ◌+◌, ◌-◌, ◌*◌, ◌<◌, ◌≤◌, Bool, true, false, Option, List, [], ◌∷◌, ◌++◌, length, take, drop, set, inl, inr, refl, sym, ap, ◌∙◌, arith, add-one, append_assoc}
use Rattle.std.specs.List.{flat_map, range_with_len}
use Rattle.std.proofs.Math.Seq.{take-add}
use Rattle.std.proofs.lemmas.Bool.{cases_eq, eq-eqb, ne_eqb, and_from, lt-ltb, cond-true, cond-false}
use Rattle.std.proofs.lemmas.List.{append-nil, set_at, take_all, drop_all, take-append-drop, drop-drop, length-take-le, length-drop, length_push, nil_from_length}
use Rattle.std.proofs.lemmas.List.Sums.{fold-append}
use Rattle.std.proofs.lemmas.Nat.{rows}
use Rattle.orca_term.specs.Painting.{screen_row, is_painted, style_change, painted_cells, painted_row, forms_of_row, painting}
use Rattle.orca_term.specs.Picture.{screen_cells}
use Rattle.orca_term.specs.Terminal.{Terminal, after_form, after_forms, with_byte, is_on_cell}
use Rattle.orca_term.specs.declared.cell.Cell.{Cell}
use Rattle.orca_term.specs.declared.cell.ScreenSize.{ScreenSize}
use Rattle.orca_term.specs.declared.forms.Form.{Form}
use Rattle.orca_term.specs.declared.forms.Form.TheVariants.{Show}
use Rattle.orca_term.proofs.PaintingBytes.{flat_map-range}

-- the terminal has this size and these cells
pub record Holds (t : Terminal) (d : ScreenSize) (wanted : List Cell) : Type 0 where
  pub size : t.size ≡ d
  pub cells : t.cells ≡ wanted

pub after-append : (t : Terminal) (xs ys : List Form)
    → after_forms t (xs ++ ys) ≡ after_forms (after_forms t xs) ys
unfolding after_forms
after-append t xs ys = fold-append after_form t xs ys

-- a change of style leaves the new style in force
after-style_change : (t : Terminal) (new : ℕ)
    → after_forms t (style_change t.style new) ≡ record t { style = new }
unfolding after_forms after_form style_change
after-style_change t new =
    elim (cases_eq t.style new) [
      | inl same ↦ rw (eq-eqb t.style new same) (ap (λ (s : ℕ). record t { style = s }) same)
      | inr other ↦ elim (cases_eq new 0) [
        | inl none ↦ rw (ne_eqb t.style new other, eq-eqb new 0 none)
            (ap (λ (s : ℕ). record t { style = s }) (sym none))
        | inr some ↦ rw (ne_eqb t.style new other, ne_eqb new 0 some) refl
      ]
    ]

after-show : (t : Terminal) (byte : ℕ) → t.y < t.size.rows → t.x < t.size.columns
    → after_form t (Show byte) ≡ with_byte t byte
unfolding after_form
after-show t byte row column =
    cond-true (is_on_cell t) (with_byte t byte) t
    (and_from _ _ (lt-ltb t.y t.size.rows row) (lt-ltb t.x t.size.columns column))

-- cells that are painted from the cursor on stand where others stood
after-cells : (t : Terminal) (p old cells q : List Cell) → t.cells ≡ p ++ (old ++ q)
    → length p ≡ t.y * t.size.columns + t.x → length old ≡ length cells → t.y < t.size.rows
    → t.x + length cells ≤ t.size.columns
    → Holds (after_forms t (painted_cells t.style cells)) t.size (p ++ (cells ++ q))
unfolding painted_cells after_forms
after-cells t p old [] q stands at len row fits =
    record { size = refl; cells = stands ∙ ap (λ xs. p ++ (xs ++ q)) (nil_from_length old len) }
after-cells t p [] (c ∷ cells) q stands at len row fits = absurd (omega (arith, len))
after-cells t p (o ∷ old) (c ∷ cells) q stands at len row fits =
    let styled : Terminal = record t { style = c.style } in
    let next : Terminal = with_byte styled c.byte in
    let here : t.x < t.size.columns = omega (arith, fits) in
    let cells_are : next.cells ≡ (p ++ c ∷ []) ++ (old ++ q) =
    ap (λ xs. set xs (t.y * t.size.columns + t.x) c) stands
    ∙ (set_at p o (old ++ q) c (t.y * t.size.columns + t.x) at
    ∙ sym (append_assoc p (c ∷ []) (old ++ q))) in
    let moved : length (p ++ c ∷ []) ≡ t.y * t.size.columns + (t.x + 1) =
    omega (arith, length_push p c, at) in
    let rest = after-cells next (p ++ c ∷ []) old cells q cells_are moved (omega (arith, len)) row
    (omega (arith, fits)) in
    let same : after_forms t (style_change t.style c.style
    ++ Show c.byte ∷ painted_cells c.style cells)
    ≡ after_forms next (painted_cells c.style cells) =
    after-append t (style_change t.style c.style) (Show c.byte ∷ painted_cells c.style cells)
    ∙ (ap (λ u. after_forms u (Show c.byte ∷ painted_cells c.style cells))
    (after-style_change t c.style)
    ∙ ap (λ u. after_forms u (painted_cells c.style cells)) (after-show styled c.byte row here)) in
    record {
      size = ap (λ (u : Terminal). u.size) same ∙ rest.size;
      cells =
          ap (λ (u : Terminal). u.cells) same ∙ (rest.cells ∙ append_assoc p (c ∷ []) (cells ++ q));
    }

-- a painted row stands where another stood
pub after-row : (t : Terminal) (y : ℕ) (p old cells q : List Cell) → t.cells ≡ p ++ (old ++ q)
    → length p ≡ y * t.size.columns → length old ≡ length cells → y < t.size.rows
    → length cells ≤ t.size.columns
    → Holds (after_forms t (painted_row y cells)) t.size (p ++ (cells ++ q))
unfolding painted_row after_forms after_form
after-row t y p old cells q stands at len row fits =
    let back : y + 1 - 1 ≡ y = omega arith in
    let start : Terminal = record t { y = y; x = 0; style = 0 } in
    let here : length p ≡ y * t.size.columns + 0 = omega (arith, at) in
    let rest : Holds (after_forms start (painted_cells 0 cells)) t.size (p ++ (cells ++ q)) =
    after-cells start p old cells q stands here len row (omega (arith, fits)) in
    let same : after_forms t (painted_row y cells) ≡ after_forms start (painted_cells 0 cells) =
    ap (λ (k : ℕ). after_forms (record t { y = k; x = 0; style = 0 }) (painted_cells 0 cells))
    back in
    record {
      size = ap (λ (u : Terminal). u.size) same ∙ rest.size;
      cells = ap (λ (u : Terminal). u.cells) same ∙ rest.cells;
    }

-- the rows before y are those of the picture, and the others are still the old ones
abbrev pub mixed : ScreenSize → List Cell → List Cell → ℕ → List Cell
mixed d old cells y = take (y * d.columns) cells ++ drop (y * d.columns) old

split_row : (d : ScreenSize) (xs : List Cell) (y : ℕ)
    → drop (y * d.columns) xs ≡ screen_row d xs y ++ drop ((y + 1) * d.columns) xs
split_row d xs y =
    let next : y * d.columns + d.columns ≡ (y + 1) * d.columns = omega arith in
    sym (take-append-drop d.columns (drop (y * d.columns) xs))
    ∙ ap (λ rest. screen_row d xs y ++ rest) (drop-drop d.columns (y * d.columns) xs
    ∙ ap (λ k. drop k xs) next)

-- a row more of the picture
joined_row : (d : ScreenSize) (old cells : List Cell) (y : ℕ)
    → take (y * d.columns) cells ++ (screen_row d cells y ++ drop ((y + 1) * d.columns) old)
    ≡ mixed d old cells (y + 1)
joined_row d old cells y =
    let next : y * d.columns + d.columns ≡ (y + 1) * d.columns = omega arith in
    sym (append_assoc (take (y * d.columns) cells) (screen_row d cells y)
    (drop ((y + 1) * d.columns) old))
    ∙ ap (λ front. front ++ drop ((y + 1) * d.columns) old)
    (sym (take-add (y * d.columns) d.columns cells) ∙ ap (λ k. take k cells) next)

-- where the rows are the same, nothing has to be painted
pub mixed-same : (d : ScreenSize) (old cells : List Cell) (y : ℕ)
    → screen_row d old y ≡ screen_row d cells y → mixed d old cells y ≡ mixed d old cells (y + 1)
mixed-same d old cells y same =
    ap (λ rest. take (y * d.columns) cells ++ rest)
    (split_row d old y ∙ ap (λ row. row ++ drop ((y + 1) * d.columns) old) same)
    ∙ joined_row d old cells y

length-row : (d : ScreenSize) (xs : List Cell) (y : ℕ) → length xs ≡ screen_cells d → y < d.rows
    → length (screen_row d xs y) ≡ d.columns
length-row d xs y whole row =
    let below : (y + 1) * d.columns ≤ d.rows * d.columns = grind (arith, rows) in
    let fits : d.columns ≤ length (drop (y * d.columns) xs) =
    omega (arith, length-drop (y * d.columns) xs, whole, below) in
    length-take-le d.columns (drop (y * d.columns) xs) fits

length-front : (d : ScreenSize) (xs : List Cell) (y : ℕ) → length xs ≡ screen_cells d → y < d.rows
    → length (take (y * d.columns) xs) ≡ y * d.columns
length-front d xs y whole row =
    let below : y * d.columns ≤ d.rows * d.columns = grind (arith, rows) in
    length-take-le (y * d.columns) xs (omega (arith, whole, below))

pub mixed-start : (d : ScreenSize) (old cells : List Cell) → mixed d old cells 0 ≡ old
mixed-start d old cells = let none : 0 * d.columns ≡ 0 = omega arith in rw none refl

pub mixed-end : (d : ScreenSize) (old cells : List Cell) → length old ≡ screen_cells d
    → length cells ≡ screen_cells d → mixed d old cells d.rows ≡ cells
mixed-end d old cells old_whole whole =
    ap (λ rest. take (d.rows * d.columns) cells ++ rest)
    (drop_all (d.rows * d.columns) old (omega (arith, old_whole)))
    ∙ (append-nil (take (d.rows * d.columns) cells)
    ∙ take_all (d.rows * d.columns) cells (omega (arith, whole)))

-- what has to be painted so that the old cells become the new ones
abbrev pub Covers : ScreenSize → Option (List Cell) → List Cell → List Cell → Type 0
Covers d last old cells =
    (y : ℕ) → y < d.rows → is_painted d last cells y ≡ false → screen_row d old y ≡ screen_row d cells y

-- one row, painted or not
row-turn : (d : ScreenSize) (last : Option (List Cell)) (old cells : List Cell) (u : Terminal)
    (y : ℕ) → length old ≡ screen_cells d → length cells ≡ screen_cells d → Covers d last old cells
    → y < d.rows → Holds u d (mixed d old cells y) → (b : Bool) → is_painted d last cells y ≡ b
    → Holds (after_forms u (forms_of_row d last cells y)) d (mixed d old cells (y + 1))
unfolding after_forms
row-turn d last old cells u y old_whole whole covers row holds false kept =
    let none = cond-false (is_painted d last cells y) (painted_row y (screen_row d cells y)) [] kept in
    rw none (record {
      size = holds.size;
      cells = holds.cells ∙ mixed-same d old cells y (covers y row kept);
    })
row-turn d last old cells u y old_whole whole covers row holds true painted =
    let one = cond-true (is_painted d last cells y) (painted_row y (screen_row d cells y)) [] painted in
    let stands =
    holds.cells ∙ ap (λ rest. take (y * d.columns) cells ++ rest) (split_row d old y) in
    let front : length (take (y * d.columns) cells) ≡ y * u.size.columns =
    rw holds.size (length-front d cells y whole row) in
    let len = length-row d old y old_whole row ∙ sym (length-row d cells y whole row) in
    let below : y < u.size.rows = rw holds.size row in
    let fits : length (screen_row d cells y) ≤ u.size.columns =
    rw holds.size (omega (arith, length-row d cells y whole row)) in
    let done = after-row u y (take (y * d.columns) cells) (screen_row d old y) (screen_row d cells y)
    (drop ((y + 1) * d.columns) old) stands front len below fits in
    rw one (record { size = done.size ∙ holds.size; cells = done.cells ∙ joined_row d old cells y })

after-rows : (d : ScreenSize) (last : Option (List Cell)) (old cells : List Cell) (t : Terminal)
    → length old ≡ screen_cells d → length cells ≡ screen_cells d → Covers d last old cells
    → Holds t d old → (y : ℕ) → y ≤ d.rows
    → Holds (after_forms t (flat_map (forms_of_row d last cells) (range_with_len 0 y))) d
    (mixed d old cells y)
unfolding after_forms
after-rows d last old cells t old_whole whole covers holds zero h =
    record { size = holds.size; cells = holds.cells ∙ sym (mixed-start d old cells) }
after-rows d last old cells t old_whole whole covers holds (suc y) h =
    let f = forms_of_row d last cells in
    let before = flat_map f (range_with_len 0 y) in
    let from_zero : 0 + y ≡ y = omega arith in
    let more : flat_map f (range_with_len 0 (suc y)) ≡ before ++ f y =
    flat_map-range f 0 y ∙ ap (λ k. before ++ f k) from_zero in
    let rest = after-rows d last old cells t old_whole whole covers holds y (omega arith) in
    let turn =
    row-turn d last old cells (after_forms t before) y old_whole whole covers (omega arith) rest
    (is_painted d last cells y) refl in
    let same : after_forms t (flat_map f (range_with_len 0 (suc y))) ≡ after_forms
    (after_forms t before) (f y) = ap (after_forms t) more ∙ after-append t before (f y) in
    record {
      size = ap (λ (u : Terminal). u.size) same ∙ turn.size;
      cells =
          ap (λ (u : Terminal). u.cells) same ∙ (turn.cells ∙ ap (mixed d old cells) (add-one y));
    }

-- after a painting that covers what differs, the terminal holds the new cells
pub after-painting : (d : ScreenSize) (last : Option (List Cell)) (old cells : List Cell)
    (t : Terminal) → length old ≡ screen_cells d → length cells ≡ screen_cells d
    → Covers d last old cells → Holds t d old
    → Holds (after_forms t (painting d last cells)) d cells
unfolding painting
after-painting d last old cells t old_whole whole covers holds =
    let all = after-rows d last old cells t old_whole whole covers holds d.rows (omega arith) in
    record { size = all.size; cells = all.cells ∙ mixed-end d old cells old_whole whole }

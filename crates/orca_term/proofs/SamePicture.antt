-- A painting has no bytes exactly where the picture is the last one.
use Rattle.std.proofs.Common.{◌≡◌, ℕ, zero, suc, ◌+◌, ◌<◌, ◌≤◌, ◌↔◌, Bool, true, false, not, Option, Some, None, List, [], ◌∷◌, ◌++◌, length, refl, sym, ap, ◌∙◌, arith, add-one}
use Rattle.std.specs.List.{flat_map, range_with_len}
use Rattle.std.specs.Option.{IfSome}
use Rattle.std.proofs.lemmas.Bool.{true≢false, cond-true, cond-false}
use Rattle.orca_term.specs.Forms.{bytes_of}
use Rattle.orca_term.specs.Painting.{screen_row, is_painted, painted_row, forms_of_row, painting}
use Rattle.orca_term.specs.Picture.{screen_cells}
use Rattle.orca_term.specs.Viewing.{painting_bytes}
use Rattle.orca_term.specs.declared.cell.Cell.{Cell}
use Rattle.orca_term.specs.declared.cell.ScreenSize.{ScreenSize}
use Rattle.orca_term.specs.declared.forms.Form.{Form}
use Rattle.orca_term.specs.declared.forms.Form.TheVariants.{GoTo, Style, Show}
use Rattle.orca_term.proofs.Repainting.{mixed, mixed-start, mixed-end, mixed-same}
use Rattle.orca_term.proofs.Sent.{rows_same, unpainted}

-- lists whose rows are the same are the same
mixed-all : (d : ScreenSize) (old cells : List Cell)
    → ((y : ℕ) → y < d.rows → screen_row d old y ≡ screen_row d cells y) → (y : ℕ) → y ≤ d.rows
    → old ≡ mixed d old cells y
mixed-all d old cells same zero h = sym (mixed-start d old cells)
mixed-all d old cells same (suc y) h =
    mixed-all d old cells same y (omega arith)
    ∙ (mixed-same d old cells y (same y (omega arith)) ∙ ap (mixed d old cells) (add-one y))

all_same : (d : ScreenSize) (old cells : List Cell) → length old ≡ screen_cells d
    → length cells ≡ screen_cells d → ((y : ℕ) → y < d.rows → screen_row d old y ≡ screen_row d cells y)
    → old ≡ cells
all_same d old cells old_whole whole same =
    mixed-all d old cells same d.rows (omega arith) ∙ mixed-end d old cells old_whole whole

append-parts : {A : Type 0} (xs ys : List A) → xs ++ ys ≡ [] → (xs ≡ []) × (ys ≡ [])
append-parts [] ys e = (refl, e)
append-parts (x ∷ xs) ys e = absurd (elim_cons x (xs ++ ys) e)
  where
    elim_cons : {A : Type 0} (x : A) (xs : List A) → x ∷ xs ≡ [] → ⊥
    elim_cons x xs e = cc

-- no forms at all come from no forms of each
each_none : {A : Type 0} (f : ℕ → List A) (a n : ℕ) → flat_map f (range_with_len a n) ≡ [] → (y : ℕ)
    → y < n → f (a + y) ≡ []
each_none f a zero e y h = absurd (omega arith)
each_none f a (suc n) e zero h =
    let here : a + 0 ≡ a = omega arith in
    ap f here ∙ (append-parts (f a) (flat_map f (range_with_len (a + 1) n)) e).0
each_none f a (suc n) e (suc y) h =
    let next : a + suc y ≡ a + 1 + y = omega arith in
    ap f next ∙ each_none f (a + 1) n
    (append-parts (f a) (flat_map f (range_with_len (a + 1) n)) e).1 y (omega arith)

none_each : {A : Type 0} (f : ℕ → List A) (a n : ℕ) → ((y : ℕ) → f y ≡ [])
    → flat_map f (range_with_len a n) ≡ []
none_each f a zero none = refl
none_each f a (suc n) none = rw (none a) (none_each f (a + 1) n none)

no_bytes : (forms : List Form) → bytes_of forms ≡ [] → forms ≡ []
unfolding bytes_of
no_bytes [] e = refl
no_bytes (GoTo row column ∷ forms) e = cc
no_bytes (Style style ∷ forms) e = cc
no_bytes (Show byte ∷ forms) e = cc

row_is_some : (y : ℕ) (cells : List Cell) → painted_row y cells ≡ [] → ⊥
unfolding painted_row
row_is_some y cells e = cc

-- a row without forms isn't painted
kept : (d : ScreenSize) (last : Option (List Cell)) (cells : List Cell) (y : ℕ) → (b : Bool)
    → is_painted d last cells y ≡ b → forms_of_row d last cells y ≡ []
    → is_painted d last cells y ≡ false
kept d last cells y false is e = is
kept d last cells y true is e =
    absurd (row_is_some y (screen_row d cells y) (sym (cond-true _ _ _ is) ∙ e))

all_kept : (d : ScreenSize) (last : Option (List Cell)) (cells : List Cell)
    → painting d last cells ≡ [] → (y : ℕ) → y < d.rows → is_painted d last cells y ≡ false
unfolding painting
all_kept d last cells none y row =
    let from_zero : 0 + y ≡ y = omega arith in
    kept d last cells y (is_painted d last cells y) refl
    (ap (forms_of_row d last cells) (sym from_zero)
    ∙ each_none (forms_of_row d last cells) 0 d.rows none y row)

same_from_none : (d : ScreenSize) (last : Option (List Cell)) (cells : List Cell) → 1 ≤ d.rows
    → IfSome last (λ old. length old ≡ screen_cells d) → length cells ≡ screen_cells d
    → painting d last cells ≡ [] → last ≡ Some cells
same_from_none d None cells some old_whole whole none =
    absurd (true≢false (all_kept d None cells none 0 (omega arith)))
same_from_none d (Some old) cells some old_whole whole none =
    ap (λ (xs : List Cell). Some xs)
    (all_same d old cells old_whole whole
    (λ y row. unpainted d old cells y (all_kept d (Some old) cells none y row)))

unchanged_row : (d : ScreenSize) (cells : List Cell) (y : ℕ)
    → forms_of_row d (Some cells) cells y ≡ []
unchanged_row d cells y =
    cond-false _ _ _ (ap not ((rows_same (screen_row d cells y) (screen_row d cells y)).1 refl))

none_from_same : (d : ScreenSize) (last : Option (List Cell)) (cells : List Cell)
    → last ≡ Some cells → painting d last cells ≡ []
unfolding painting
none_from_same d last cells same =
    ap (λ o. flat_map (forms_of_row d o cells) (range_with_len 0 d.rows)) same
    ∙ none_each (forms_of_row d (Some cells) cells) 0 d.rows (unchanged_row d cells)

pub same_picture : (d : ScreenSize) (last : Option (List Cell)) (cells : List Cell) → 1 ≤ d.rows
    → IfSome last (λ old. length old ≡ screen_cells d) → length cells ≡ screen_cells d
    → (painting_bytes d last cells ≡ []) ↔ (last ≡ Some cells)
unfolding bytes_of
same_picture d last cells some old_whole whole = (
  λ e. same_from_none d last cells some old_whole whole (no_bytes (painting d last cells) e),
  λ e. ap bytes_of (none_from_same d last cells e),
)

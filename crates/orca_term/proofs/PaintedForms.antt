-- The forms of a painting are forms that a terminal reads.
use Rattle.std.proofs.Common.{◌≡◌, ◌==◌, ℕ, zero, suc, ◌+◌, ◌*◌, ◌^◌, ◌<◌, ◌≤◌, Bool, true, false, cond, Option, Some, List, [], ◌∷◌, ◌++◌, drop, arith}
use Rattle.std.specs.List.{All, AllByRecursion, flat_map, range_with_len}
use Rattle.std.proofs.lemmas.List.Elements.{All-take, All-drop, recursion_from_All}
use Rattle.orca_term.specs.Forms.{forms_of}
use Rattle.orca_term.specs.Painting.{screen_row, is_painted, style_change, painted_cells, painted_row, forms_of_row, painting}
use Rattle.orca_term.specs.Picture.{IsPrintable, IsScreen}
use Rattle.orca_term.specs.Viewing.{painting_bytes}
use Rattle.orca_term.specs.declared.cell.Cell.{Cell}
use Rattle.orca_term.specs.declared.cell.ScreenSize.{ScreenSize}
use Rattle.orca_term.specs.declared.forms.Form.{Form}
use Rattle.orca_term.specs.declared.forms.Form.TheVariants.{Style, Show}
use Rattle.orca_term.specs.declared.limits.TheConstants.{FORM_DIGITS, MAX_STYLE}
use Rattle.orca_term.proofs.WholeForms.{IsForm, forms-read}

abbrev AreForms : List Form → Type 0
AreForms forms = AllByRecursion IsForm forms

forms-append : (xs ys : List Form) → AreForms xs → AreForms ys → AreForms (xs ++ ys)
forms-append [] ys front back = back
forms-append (x ∷ xs) ys front back = (front.0, forms-append xs ys front.1 back)

forms-cond : (b : Bool) (xs ys : List Form) → AreForms xs → AreForms ys → AreForms (cond b xs ys)
forms-cond true xs ys first second = first
forms-cond false xs ys first second = second

forms-style_change : (old new : ℕ) → new ≤ MAX_STYLE → AreForms (style_change old new)
unfolding style_change
forms-style_change old new low =
    forms-cond (old == new) [] (cond (new == 0) (Style 0 ∷ []) (Style 0 ∷ Style new ∷ [])) tt
    (forms-cond (new == 0) (Style 0 ∷ []) (Style 0 ∷ Style new ∷ []) (omega arith, tt)
    (omega arith, (low, tt)))

forms-cells : (style : ℕ) (cells : List Cell) → AllByRecursion IsPrintable cells
    → AreForms (painted_cells style cells)
unfolding painted_cells
forms-cells style [] printable = tt
forms-cells style (c ∷ cells) printable =
    forms-append (style_change style c.style) (Show c.byte ∷ painted_cells c.style cells)
    (forms-style_change style c.style printable.0.style)
    (printable.0.byte, forms-cells c.style cells printable.1)

forms-row : (y : ℕ) (cells : List Cell) → y + 1 < 10 ^ FORM_DIGITS
    → AllByRecursion IsPrintable cells → AreForms (painted_row y cells)
unfolding painted_row
forms-row y cells low printable =
    ((omega arith, low, omega arith, omega arith), (omega arith, forms-cells 0 cells printable))

forms-rows : (f : ℕ → List Form) (a n : ℕ) → ((y : ℕ) → y < a + n → AreForms (f y))
    → AreForms (flat_map f (range_with_len a n))
forms-rows f a zero each = tt
forms-rows f a (suc n) each =
    forms-append (f a) (flat_map f (range_with_len (a + 1) n)) (each a (omega arith))
    (forms-rows f (a + 1) n (λ y h. each y (omega arith)))

-- the bytes of a painting of printable cells are read as its forms
pub painting-read : (d : ScreenSize) (last : Option (List Cell)) (cells : List Cell) → IsScreen d
    → All IsPrintable cells → forms_of (painting_bytes d last cells) ≡ Some (painting d last cells)
unfolding painting
painting-read d last cells screen printable =
    forms-read (painting d last cells) (forms-rows (forms_of_row d last cells) 0 d.rows (λ y h.
    forms-cond (is_painted d last cells y) (painted_row y (screen_row d cells y)) []
    (forms-row y (screen_row d cells y) (omega (arith, screen.few_rows))
    (recursion_from_All IsPrintable _
    (All-take IsPrintable d.columns (drop (y * d.columns) cells)
    (All-drop IsPrintable (y * d.columns) cells printable)))) tt))

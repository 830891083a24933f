-- Paintings that are sent one after another.
use Rattle.std.proofs.Common.{◌≡◌, ℕ, Bool, true, false, cond, Option, Some, None, List, [], ◌∷◌, ◌++◌, length, refl, sym, ap, ◌∙◌}
use Rattle.std.specs.Bool.{Decides}
use Rattle.std.specs.Cmp.Lexicographic.{pointwise}
use Rattle.std.specs.Option.{option_map, unwrap_or, is_some}
use Rattle.std.proofs.lemmas.Bool.{false≢true, and_parts, and_from, eqb-true, eq-eqb, not-false}
use Rattle.std.proofs.lemmas.List.{length-set}
use Rattle.std.proofs.lemmas.Slice.Eq.{slice_eq-Decides}
use Rattle.orca_term.specs.Forms.{read, forms_after, forms_from, forms_of}
use Rattle.orca_term.specs.Painting.{painting, is_painted, is_same_cell, screen_row}
use Rattle.orca_term.specs.Picture.{screen_cells}
use Rattle.orca_term.specs.Terminal.{Terminal, is_on_cell, with_byte, after_form, after_forms, after_bytes}
use Rattle.orca_term.specs.Viewing.{IsOf, painting_bytes, Shows}
use Rattle.orca_term.specs.declared.cell.Cell.{Cell}
use Rattle.orca_term.specs.declared.cell.ScreenSize.{ScreenSize}
use Rattle.orca_term.specs.declared.forms.Form.{Form}
use Rattle.orca_term.specs.declared.forms.Form.TheVariants.{GoTo, Style, Show}
use Rattle.orca_term.specs.declared.forms.Reading.{Reading}
use Rattle.orca_term.specs.declared.forms.Reading.TheVariants.{Ready, Escaped, First, Second}
use Rattle.orca_term.specs.declared.forms.Step.{Step}
use Rattle.orca_term.specs.declared.forms.Step.TheVariants.{Goes, Gives, Breaks}
use Rattle.orca_term.proofs.Showing.{forms_from-more, some_of, unmapped}
use Rattle.orca_term.proofs.Repainting.{Holds, Covers, after-painting, after-append}

-- whole forms, and then others
abbrev Follows : List Form → List ℕ → Option (List Form)
Follows forms bytes = option_map (λ rest. forms ++ rest) (forms_of bytes)

nothing_first : (o : Option (List Form)) → o ≡ option_map (λ rest. [] ++ rest) o
nothing_first None = refl
nothing_first (Some forms) = refl

one_first : (form : Form) (forms : List Form) (o : Option (List Form))
    → option_map (λ rest. form ∷ rest) (option_map (λ rest. forms ++ rest) o) ≡ option_map
    (λ rest. (form ∷ forms) ++ rest) o
one_first form forms None = refl
one_first form forms (Some rest) = refl

step-append : (s : Step) (a b : List ℕ) (forms : List Form)
    → ((r : Reading) (fs : List Form) → forms_from r a ≡ Some fs
    → forms_from r (a ++ b) ≡ Follows fs b) → forms_after s (λ next. forms_from next a) ≡ Some forms
    → forms_after s (λ next. forms_from next (a ++ b)) ≡ Follows forms b
step-append (Goes next) a b forms rest e = rest next forms e
step-append (Gives form) a b forms rest e =
    let parts = unmapped form (forms_from Ready a) forms e in
    ap (option_map (λ fs. form ∷ fs)) (rest Ready parts.0 parts.1)
    ∙ (one_first form parts.0 (forms_of b) ∙ ap (λ fs. Follows fs b) (sym parts.2))
step-append Breaks a b forms rest e = cc

forms-append : (a b : List ℕ) (r : Reading) (forms : List Form) → forms_from r a ≡ Some forms
    → forms_from r (a ++ b) ≡ Follows forms b
unfolding forms_from
forms-append [] b Ready forms e =
    nothing_first (forms_of b) ∙ ap (λ fs. Follows fs b) (ready_none forms e)
  where
    ready_none : (forms : List Form) → Some [] ≡ Some forms → [] ≡ forms
    ready_none forms e = cc
forms-append [] b Escaped forms e = cc
forms-append [] b (First number) forms e = cc
forms-append [] b (Second row number) forms e = cc
forms-append (x ∷ a) b r forms e =
    forms_from-more r x (a ++ b)
    ∙ step-append (read r x) a b forms (λ next fs h. forms-append a b next fs h)
    (sym (forms_from-more r x a) ∙ e)

-- forms leave the size and the number of cells
size-after_form : (t : Terminal) (form : Form)
    → ((after_form t form).size ≡ t.size) × (length (after_form t form).cells ≡ length t.cells)
unfolding after_form
size-after_form t (GoTo row column) = (refl, refl)
size-after_form t (Style style) = (refl, refl)
size-after_form t (Show byte) = by_place (is_on_cell t)
  where
    by_place : (b : Bool) → ((cond b (with_byte t byte) t).size ≡ t.size)
        × (length (cond b (with_byte t byte) t).cells ≡ length t.cells)
    by_place true = (refl, length-set t.cells _ _)
    by_place false = (refl, refl)

size-after : (t : Terminal) (forms : List Form)
    → ((after_forms t forms).size ≡ t.size) × (length (after_forms t forms).cells ≡ length t.cells)
unfolding after_forms
size-after t [] = (refl, refl)
size-after t (form ∷ forms) =
    let one = size-after_form t form in
    let rest = size-after (after_form t form) forms in
    (rest.0 ∙ one.0, rest.1 ∙ one.1)

pub size-after_bytes : (t : Terminal) (bytes : List ℕ) → (after_bytes t bytes).size ≡ t.size
size-after_bytes t bytes = (size-after t (unwrap_or (forms_of bytes) [])).0

-- two cells are the same where the test says so
cell_same : (a b : Cell) → Decides (is_same_cell a b) (a ≡ b)
cell_same a b = (
  λ e.
      let parts = and_parts _ _ e in
      ap (λ (n : ℕ). let c : Cell = record { byte = n; style = a.style } in c)
      (eqb-true a.byte b.byte parts.0)
      ∙ ap (λ (n : ℕ). let c : Cell = record { byte = b.byte; style = n } in c)
      (eqb-true a.style b.style parts.1),
  λ e. and_from _ _ (eq-eqb a.byte b.byte (ap (λ (c : Cell). c.byte) e))
      (eq-eqb a.style b.style (ap (λ (c : Cell). c.style) e)),
)

pub rows_same : (xs ys : List Cell) → Decides (pointwise is_same_cell xs ys) (xs ≡ ys)
rows_same xs ys = slice_eq-Decides cell_same xs ys (pointwise is_same_cell xs ys) refl

-- a row that isn't painted is the same in the last picture
pub unpainted : (d : ScreenSize) (old cells : List Cell) (y : ℕ)
    → is_painted d (Some old) cells y ≡ false → screen_row d old y ≡ screen_row d cells y
unpainted d old cells y kept = (rows_same (screen_row d old y) (screen_row d cells y)).0 (not-false _ kept)

-- after these forms a terminal holds what has to be covered
record Ready_for (d : ScreenSize) (last : Option (List Cell)) (cells : List Cell)
    (t : Terminal) (forms : List Form) : Type 0 where
  old : List Cell
  len : length old ≡ screen_cells d
  holds : Holds (after_forms t forms) d old
  covers : Covers d last old cells

-- the forms of what was sent, after which each terminal of this size is ready
record Ready_after (d : ScreenSize) (last : Option (List Cell)) (cells : List Cell)
    (sent : List ℕ) : Type 0 where
  forms : List Form
  whole : forms_of sent ≡ Some forms
  ready : (t : Terminal) → IsOf d t → Ready_for d last cells t forms

ready : (d : ScreenSize) (last : Option (List Cell)) (cells : List Cell) (sent : List ℕ)
    → Shows d sent last → Ready_after d last cells sent
unfolding after_forms forms_from
ready d None cells sent nothing = record {
  forms = [];
  whole = ap forms_of nothing;
  ready = λ t is_of. record {
    old = t.cells;
    len = is_of.whole;
    holds = record { size = is_of.size; cells = refl };
    covers = λ y row e. absurd (false≢true (sym e));
  };
}
ready d (Some old) cells sent shows =
    let some = some_of (forms_of sent) shows.0 in
    record {
      forms = some.0;
      whole = some.1;
      ready = λ t is_of. shown t is_of (some.0) (some.1);
    }
  where
    shown : (t : Terminal) → IsOf d t → (forms : List Form) → forms_of sent ≡ Some forms
        → Ready_for d (Some old) cells t forms
    shown t is_of forms are =
        let size = size-after t forms in
        let cells_are : (after_forms t forms).cells ≡ old =
        ap (λ (o : Option (List Form)). (after_forms t (unwrap_or o [])).cells) (sym are)
        ∙ shows.1 t is_of in
        record {
          old = old;
          len = sym (ap length cells_are) ∙ (size.1 ∙ is_of.whole);
          holds = record { size = size.0 ∙ is_of.size; cells = cells_are };
          covers = λ y row kept. unpainted d old cells y kept;
        }

-- after one more painting each terminal shows its picture
pub sent-more : (d : ScreenSize) (last : Option (List Cell)) (cells : List Cell) (sent : List ℕ)
    → length cells ≡ screen_cells d
    → forms_of (painting_bytes d last cells) ≡ Some (painting d last cells) → Shows d sent last
    → Shows d (sent ++ painting_bytes d last cells) (Some cells)
sent-more d last cells sent whole read shows =
    let before = ready d last cells sent shows in
    let forms : forms_of (sent ++ painting_bytes d last cells) ≡ Some
    (before.forms ++ painting d last cells) =
    forms-append sent (painting_bytes d last cells) Ready before.forms before.whole
    ∙ ap (option_map (λ rest. before.forms ++ rest)) read in
    (ap is_some forms, λ t is_of. shown before.forms t (before.ready t is_of) forms)
  where
    shown : (sent_forms : List Form) (t : Terminal) → Ready_for d last cells t sent_forms
        → forms_of (sent ++ painting_bytes d last cells)
        ≡ Some (sent_forms ++ painting d last cells)
        → (after_bytes t (sent ++ painting_bytes d last cells)).cells ≡ cells
    shown sent_forms t before forms =
        let after =
        after-painting d last before.old cells (after_forms t sent_forms) before.len whole
        before.covers before.holds in
        ap (λ (o : Option (List Form)). (after_forms t (unwrap_or o [])).cells) forms
        ∙ (ap (λ (u : Terminal). u.cells)
        (after-append t sent_forms (painting d last cells)) ∙ after.cells)

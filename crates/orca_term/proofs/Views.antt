-- A view after one more painting.
use Rattle.std.proofs.Common.{◌≡◌, ◌↔◌, ℕ, Bool, true, false, cond, Option, Some, None, List, [], ◌++◌, length, refl, sym, ap, ◌∙◌, subst, arith}
use Rattle.std.specs.List.{All}
use Rattle.std.specs.Option.{IfSome, is_some}
use Rattle.orca_term.specs.Picture.{IsPrintable, IsScreen, screen_cells}
use Rattle.orca_term.specs.Terminal.{IsWhole}
use Rattle.orca_term.specs.Viewing.{Seen, painting_bytes, Shows}
use Rattle.orca_term.specs.declared.cell.Cell.{Cell}
use Rattle.orca_term.specs.declared.cell.ScreenSize.{ScreenSize}
use Rattle.orca_term.proofs.PaintedForms.{painting-read}
use Rattle.orca_term.proofs.SamePicture.{same_picture}
use Rattle.orca_term.proofs.Sent.{sent-more}

-- the bytes are the painting of a picture of printable cells
pub record Paints (d : ScreenSize) (last : Option (List Cell)) (cells : List Cell)
    (bytes : List ℕ) : Type 0 where
  pub screen : IsScreen d
  pub old : IfSome last (λ old. length old ≡ screen_cells d)
  pub whole : length cells ≡ screen_cells d
  pub printable : All IsPrintable cells
  pub bytes_are : bytes ≡ painting_bytes d last cells

old_whole : (d : ScreenSize) (painted : Bool) (old : List Cell)
    → (painted ≡ true → length old ≡ screen_cells d)
    → IfSome (cond painted (Some old) None) (λ old. length old ≡ screen_cells d)
old_whole d true old len = len refl
old_whole d false old len = tt

-- the same for a view, by its fields
pub paints-view : (d : ScreenSize) (painted : Bool) (old : List Cell) (old_bytes bytes : List ℕ)
    (now : Seen) (drawn cells : List Cell)
    → record { size = d; last = cond painted (Some old) None; bytes = old_bytes } ≡ now → IsScreen d
    → (painted ≡ true → length old ≡ screen_cells d) → length drawn ≡ screen_cells d
    → All IsPrintable drawn
    → drawn ≡ cells → bytes ≡ painting_bytes now.size now.last cells
    → Paints now.size now.last cells bytes
paints-view d painted old old_bytes bytes now drawn cells view screen old_len len printable same
    bytes_are = record {
      screen = subst (λ (s : Seen). IsScreen s.size) view screen;
      old = subst (λ (s : Seen). IfSome s.last (λ xs. length xs ≡ screen_cells s.size)) view
          (old_whole d painted old old_len);
      whole = sym (ap length same)
          ∙ subst (λ (s : Seen). length drawn ≡ screen_cells s.size) view len;
      printable = subst (λ xs. All IsPrintable xs) same printable;
      bytes_are = bytes_are;
    }

pub whole_bytes : (d : ScreenSize) (last : Option (List Cell)) (cells : List Cell) (bytes : List ℕ)
    → Paints d last cells bytes → IsWhole bytes
whole_bytes d last cells bytes paints =
    subst IsWhole (sym paints.bytes_are)
    (ap is_some (painting-read d last cells paints.screen paints.printable))

pub same_bytes : (d : ScreenSize) (last : Option (List Cell)) (cells : List Cell) (bytes : List ℕ)
    → Paints d last cells bytes → (bytes ≡ []) ↔ (last ≡ Some cells)
same_bytes d last cells bytes paints =
    subst (λ bs. (bs ≡ []) ↔ (last ≡ Some cells)) (sym paints.bytes_are)
    (same_picture d last cells (omega (arith, paints.screen.rows)) paints.old paints.whole)

pub shown_bytes : (d : ScreenSize) (last : Option (List Cell)) (cells : List Cell) (bytes : List ℕ)
    → Paints d last cells bytes → (sent : List ℕ) → Shows d sent last
    → Shows d (sent ++ bytes) (Some cells)
shown_bytes d last cells bytes paints sent shows =
    subst (λ bs. Shows d (sent ++ bs) (Some cells)) (sym paints.bytes_are)
    (sent-more d last cells sent paints.whole
    (painting-read d last cells paints.screen paints.printable) shows)

-- What the parts of a command take, beside their prices.
use Rattle.std.proofs.Common.{◌≡◌, ℕ, ◌+◌, ◌*◌, ◌≤◌, length, refl, arith, ap, sym, ◌∙◌, subst}
use Rattle.orca_base.specs.declared.command.Entry.{Entry}
use Rattle.orca_base.specs.declared.command.Entry.TheVariants.{Fill, Put, Move, Resize, Reset, Frame, Hush}
use Rattle.orca_base.specs.declared.now.Now.{Now}
use Rattle.orca_base.specs.Grids.{Size, Sheet}
use Rattle.orca_board.specs.Sizes.{cut_places, slate_reverted}
use Rattle.orca_board.proofs.ResidueLemmas.{count-with_sheet}
use Rattle.orca_edit.specs.Editing.{FitsIn, IsGridEdit, steps_of}
use Rattle.orca_edit.specs.Pieces.{Piece, apply, next_frame}
use Rattle.orca_edit.specs.Prices.{preview_price, price}
use Rattle.orca_edit.specs.Pricing.{PaysTwice, TouchesBothWays}
use Rattle.orca_frame.specs.Frames.{IsFramed, most_steps}
use Rattle.orca_op.specs.Slate.{Slate, residue}
use Rattle.orca_op.specs.Scan.{busy}
use Rattle.orca_op.specs.State.{sheet_of}

-- ---- one entry

same-now : (p : Piece) (now : Now) → p.tick ≡ now.tick → p.seed ≡ now.seed → next_frame p ≡ now
same-now p now tick seed =
    ap (λ (t : ℕ). record { tick = t; seed = p.seed }) tick
    ∙ ap (λ (s : ℕ). record { tick = now.tick; seed = s }) seed

-- a frame, with what it leaves to clear
pub pays-frame : (old new : Slate) (now : Now) (p : Piece) (from to : ℕ) → IsFramed old new now
    → to ≤ from + most_steps old now → p.sheet ≡ sheet_of old.scan → p.tick ≡ now.tick
    → p.seed ≡ now.seed → to + residue new ≤ from + residue old + preview_price p
pays-frame old new now p from to framed most sheet tick seed =
    let same : busy p.sheet (next_frame p) ≡ busy (sheet_of old.scan) now =
    ap (λ (g : Sheet). busy g (next_frame p)) sheet
    ∙ ap (λ (n : Now). busy (sheet_of old.scan) n) (same-now p now tick seed) in
    omega (arith, most, framed.residue, same, ap (λ (g : Sheet). g.dims.h) sheet)

-- an entry that is none of these edits the grid
pub is-edit : (entry : Entry) → (entry ≡ Reset → ⊥) → (entry ≡ Frame → ⊥) → (entry ≡ Hush → ⊥)
    → IsGridEdit entry
is-edit (Fill area glyph) reset frame hush = tt
is-edit (Put at block) reset frame hush = tt
is-edit (Move area to) reset frame hush = tt
is-edit (Resize dims) reset frame hush = tt
is-edit Reset reset frame hush = absurd (reset refl)
is-edit Frame reset frame hush = absurd (frame refl)
is-edit Hush reset frame hush = absurd (hush refl)

-- a grid edit, with what it leaves to clear
pub pays-edit : PaysTwice → (old new : Slate) (entry : Entry) (p : Piece) (from to : ℕ)
    → IsGridEdit entry
    → FitsIn old.scan.dims entry → p.sheet ≡ sheet_of old.scan
    → to ≡ from + steps_of old.scan.dims entry → residue new + from ≤ residue old + to
    → to + residue new + 1 ≤ from + residue old + price p entry
pays-edit pays old new entry p from to edit fits sheet steps grows =
    let size : old.scan.dims ≡ p.sheet.dims = sym (ap (λ (g : Sheet). g.dims) sheet) in
    let twice : 2 * steps_of p.sheet.dims entry + 1 ≤ price p entry =
    pays p entry edit (subst (λ (d : Size). FitsIn d entry) size fits) in
    omega (arith, steps, grows, twice, ap (λ (d : Size). steps_of d entry) size)

-- ---- going back to the last begin

-- what was listed is not to be cleared any more
pub residue-back : (d : Slate) → residue (slate_reverted d) + length d.listed ≤ residue d
unfolding residue
residue-back d = omega (arith, count-with_sheet d.scan d.began)

-- the grid before comes back for what was listed, and for what the size before cuts off
pub pays-back : (old new : Slate) (size : Size) (from to : ℕ) → new ≡ slate_reverted old
    → old.began.dims ≡ size
    → to ≡ from + length (cut_places old.scan.dims old.began.dims) + length old.listed
    → to + residue new ≤ from + residue old + length (cut_places old.scan.dims size)
pays-back old new size from to is same steps =
    omega (
      arith,
      steps,
      ap residue is,
      residue-back old,
      ap (λ (d : Size). length (cut_places old.scan.dims d)) same,
    )

-- no place is cut off where the size stays
pub no-cut : TouchesBothWays → (p : Piece) → length (cut_places p.sheet.dims p.sheet.dims) ≡ 0
unfolding apply
no-cut both p = omega (arith, both p Hush)

-- ---- an entry that was done, and taken back

-- a grid edit after a begin
pub pays-refused : PaysTwice → TouchesBothWays → (p : Piece) (entry : Entry) → IsGridEdit entry
    → FitsIn p.sheet.dims entry
    → 2 * steps_of p.sheet.dims entry + 1
    + length (cut_places (apply p entry).piece.sheet.dims p.sheet.dims)
    ≤ price p entry
unfolding apply
pays-refused pays both p (Resize dims) edit fits =
    omega (arith, both p (Resize dims))
pays-refused pays both p (Fill area glyph) edit fits =
    omega (
      arith,
      pays p (Fill area glyph) edit fits,
      no-cut both p,
    )
pays-refused pays both p (Put at block) edit fits =
    omega (arith, pays p (Put at block) edit fits, no-cut both p)
pays-refused pays both p (Move area to) edit fits =
    omega (arith, pays p (Move area to) edit fits, no-cut both p)
pays-refused pays both p Reset edit fits = elim edit [ ]
pays-refused pays both p Frame edit fits = elim edit [ ]
pays-refused pays both p Hush edit fits = elim edit [ ]

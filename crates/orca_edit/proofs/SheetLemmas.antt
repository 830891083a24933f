-- A grid stays one through entries that fit and write glyphs.
use Rattle.std.proofs.Common.{◌≡◌, ℕ, ◌+◌, ◌-◌, ◌<◌, ◌≤◌, Bool, true, false, List, [], ◌∷◌, refl, arith, ap, sym, subst, lit≤}
use Rattle.std.specs.Prelude.{All, if◌then◌else◌}
use Rattle.std.specs.List.{AllByRecursion}
use Rattle.std.proofs.lemmas.Bool.{and_parts, leb-true, ltb-true}
use Rattle.std.proofs.lemmas.List.Elements.{recursion_from_All}
use Rattle.orca_base.specs.declared.area.Area.{Area}
use Rattle.orca_base.specs.declared.command.Entry.{Entry}
use Rattle.orca_base.specs.declared.command.Entry.TheVariants.{Fill, Put, Move, Resize, Reset, Frame, Hush}
use Rattle.orca_base.specs.declared.now.Now.{Now}
use Rattle.orca_base.specs.declared.place.Place.{Place}
use Rattle.orca_base.specs.Areas.{IsArea, corner_of, size_of}
use Rattle.orca_base.specs.Edits.{is_in_area, is_within, moved, origin, sheet_after_fill, sheet_after_move, sheet_after_put}
use Rattle.orca_base.specs.Glyphs.{IsGlyph, empty}
use Rattle.orca_base.specs.Grids.{Size, Sheet, IsSheet, IsInside, glyph_at, index_of}
use Rattle.orca_base.proofs.PlaceFacts.{index_of-below}
use Rattle.orca_base.proofs.SheetFacts.{IsGlyph-glyph_at, IsGlyph-index, IsSheet-sheet_by, IsSheet-resize}
use Rattle.orca_op.specs.Laws.{IsLawful}
use Rattle.orca_op.specs.Rules.{rule}
use Rattle.orca_op.specs.Scan.{places, scan}
use Rattle.orca_op.specs.State.{sheet_of}
use Rattle.orca_op.proofs.VisitFacts.{visited}
use Rattle.orca_edit.specs.Editing.{AllFit, FitsIn, IsBlock, WritesGlyphs}
use Rattle.orca_edit.specs.Pieces.{Piece, apply, fold_entries, next_frame, opened_piece, piece_after}
use Rattle.orca_edit.proofs.FoldLemmas.{silence-piece_after}

-- ---- edits

IsGlyph-empty : IsGlyph empty
IsGlyph-empty = (lit≤ tt, lit≤ tt)

-- a choice between two glyphs
IsGlyph-if : (test : Bool) (g h : ℕ) → (test ≡ true → IsGlyph g) → IsGlyph h
    → IsGlyph (if test then g else h)
IsGlyph-if true g h then_glyph else_glyph = then_glyph refl
IsGlyph-if false g h then_glyph else_glyph = else_glyph

-- where a place of a block stands, counted from its first place
record IsCounted (corner : Place) (size : Size) (at : Place) : Type 0 where
  row : at.y - corner.y < size.h
  column : at.x - corner.x < size.w

counted : (corner : Place) (size : Size) (at : Place) → is_within corner size at ≡ true
    → IsCounted corner size at
counted corner size at is =
    let first = and_parts _ _ is in
    let second = and_parts _ _ first.0 in
    let third = and_parts _ _ second.0 in
    let top : corner.y ≤ at.y = leb-true _ _ third.0 in
    let bottom : at.y < corner.y + size.h = ltb-true _ _ third.1 in
    let left : corner.x ≤ at.x = leb-true _ _ second.1 in
    let right : at.x < corner.x + size.w = ltb-true _ _ first.1 in
    record { row = omega (arith, top, bottom); column = omega (arith, left, right) }

IsSheet-fill : (g : Sheet) (area : Area) (glyph : ℕ) → IsSheet g → IsGlyph glyph
    → IsSheet (sheet_after_fill g area glyph)
IsSheet-fill g area glyph sheet is =
    IsSheet-sheet_by g.dims (λ at. if is_in_area area at then glyph else glyph_at g at) sheet.size
    (λ at inside. IsGlyph-if (is_in_area area at) glyph (glyph_at g at) (λ _. is)
    (IsGlyph-glyph_at g at sheet inside))

-- a cell of a block is a glyph
IsGlyph-block : (block : Sheet) (at : Place) → IsBlock block → IsInside block.dims at
    → IsGlyph (glyph_at block at)
IsGlyph-block block at is inside =
    IsGlyph-index block.cells (index_of block.dims at) is.glyphs
    (omega (arith, index_of-below block.dims at inside, is.whole))

IsSheet-put : (g : Sheet) (to : Place) (block : Sheet) → IsSheet g → IsBlock block
    → IsSheet (sheet_after_put g to block)
IsSheet-put g to block sheet is =
    IsSheet-sheet_by g.dims
    (λ at. if is_within to block.dims at then glyph_at block (moved to origin at)
    else glyph_at g at)
    sheet.size
    (λ at inside. IsGlyph-if (is_within to block.dims at) (glyph_at block (moved to origin at))
    (glyph_at g at)
    (λ within. IsGlyph-block block (moved to origin at) is
    (let where_it_is = counted to block.dims at within in
    record { row = omega (arith, where_it_is.row); column = omega (arith, where_it_is.column) }))
    (IsGlyph-glyph_at g at sheet inside))

IsSheet-move : (g : Sheet) (area : Area) (to : Place) → IsSheet g → IsArea g.dims area
    → IsSheet (sheet_after_move g area to)
IsSheet-move g area to sheet fits =
    IsSheet-sheet_by g.dims
    (λ at. if is_within to (size_of area) at then glyph_at g (moved to (corner_of area) at)
    else (if is_in_area area at then empty else glyph_at g at))
    sheet.size
    (λ at inside. IsGlyph-if (is_within to (size_of area) at)
    (glyph_at g (moved to (corner_of area) at))
    (if is_in_area area at then empty else glyph_at g at)
    (λ within. IsGlyph-glyph_at g (moved to (corner_of area) at) sheet
    (let where_it_is = counted to (size_of area) at within in
    record {
      row = omega (arith, where_it_is.row, fits.bottom);
      column = omega (arith, where_it_is.column, fits.right);
    }))
    (IsGlyph-if (is_in_area area at) empty (glyph_at g at) (λ _. IsGlyph-empty)
    (IsGlyph-glyph_at g at sheet inside)))

-- ---- a frame

pub IsSheet-scan : (g : Sheet) (now : Now) → IsLawful rule → IsSheet g
    → IsSheet (sheet_of (scan g now))
unfolding scan
IsSheet-scan g now lawful sheet =
    (visited (places g) g now lawful sheet (omega arith)).state.sheet

-- ---- entries

pub IsSheet-apply : (p : Piece) (entry : Entry) → IsLawful rule → IsSheet p.sheet
    → FitsIn p.sheet.dims entry → WritesGlyphs entry → IsSheet (apply p entry).piece.sheet
unfolding apply
IsSheet-apply p (Fill area glyph) lawful sheet fits is = IsSheet-fill p.sheet area glyph sheet is
IsSheet-apply p (Put at block) lawful sheet fits is = IsSheet-put p.sheet at block sheet is
IsSheet-apply p (Move area to) lawful sheet fits is =
    IsSheet-move p.sheet area to sheet fits.0
IsSheet-apply p (Resize dims) lawful sheet fits is = IsSheet-resize p.sheet dims sheet fits
IsSheet-apply p Reset lawful sheet fits is = sheet
IsSheet-apply p Frame lawful sheet fits is = IsSheet-scan p.sheet (next_frame p) lawful sheet
IsSheet-apply p Hush lawful sheet fits is = sheet

through : (p : Piece) (entries : List Entry) → IsLawful rule → IsSheet p.sheet → AllFit p entries
    → AllByRecursion WritesGlyphs entries → IsSheet (fold_entries p entries).sheet
through p [] lawful sheet fits all = sheet
through p (e ∷ entries) lawful sheet fits all =
    through (apply p e).piece entries lawful (IsSheet-apply p e lawful sheet fits.0 all.0) fits.1
    all.1

pub IsSheet-fold_entries : IsLawful rule → (p : Piece) (entries : List Entry) → IsSheet p.sheet
    → AllFit p entries → All WritesGlyphs entries → IsSheet (fold_entries p entries).sheet
IsSheet-fold_entries lawful p entries sheet fits all =
    through p entries lawful sheet fits (recursion_from_All WritesGlyphs entries all)

pub IsSheet-piece_after : IsLawful rule → (opened : Sheet) (seed : ℕ) (history : List Entry)
    (closed : ℕ) → IsSheet opened → AllFit (opened_piece opened seed) history
    → All WritesGlyphs history → IsSheet (piece_after opened seed history closed).sheet
IsSheet-piece_after lawful opened seed history closed sheet fits all =
    subst IsSheet
    (sym (ap (λ (p : Piece). p.sheet) (silence-piece_after opened seed history closed)))
    (IsSheet-fold_entries lawful (opened_piece opened seed) history sheet fits all)

-- The slate that each block edit leaves.
use Rattle.std.proofs.Common.{◌≡◌, ℕ, ◌+◌, ◌-◌, ◌*◌, ◌<◌, ◌≤◌, Bool, true, false, not, ◌&&◌, List, length, refl, arith, ap, sym, ◌∙◌, length-append}
use Rattle.std.specs.Prelude.{if◌then◌else◌}
use Rattle.std.proofs.lemmas.Bool.{and_parts, leb-true, ltb-true}
use Rattle.orca_base.specs.declared.area.Area.{Area}
use Rattle.orca_base.specs.declared.place.Place.{Place}
use Rattle.orca_base.specs.Areas.{IsArea, corner_of, size_of}
use Rattle.orca_base.specs.Edits.{block_of, is_in_area, is_within, moved, origin, sheet_after_fill, sheet_after_put, sheet_after_move}
use Rattle.orca_base.specs.Glyphs.{empty}
use Rattle.orca_base.specs.Grids.{Size, Sheet, IsInside, glyph_at, sheet_by}
use Rattle.orca_base.proofs.SheetFacts.{glyph_at-sheet_by, length-by_place}
use Rattle.orca_op.specs.State.{sheet_of}
use Rattle.orca_op.specs.Slate.{Slate, IsSlate, slate_after_all, is_listed}
use Rattle.orca_board.specs.Blocks.{slate_after_edit, fill_places, glyph_from, image, places_in, places_outside, put_places, rows_of_width, shift_places, write_each}
use Rattle.orca_board.proofs.BlockLemmas.{after_writes, edit-edit}
use Rattle.orca_board.proofs.BlockPlaces.{image-fits, in-image, length-places_in, inside-places_in, inside-places_outside, is_listed-places_in, is_listed-places_outside}

-- fill
pub after_fill : (d : Slate) (area : Area) (glyph : ℕ) → IsSlate d → IsArea d.scan.dims area
    → slate_after_all d (write_each (λ at. glyph) (places_in area))
    ≡ slate_after_edit d (sheet_after_fill (sheet_of d.scan) area glyph) (fill_places area)
after_fill d area glyph slate is =
    after_writes d (λ at. glyph) (places_in area)
    (λ at. if is_in_area area at then glyph else glyph_at (sheet_of d.scan) at)
    slate.state.sheet.size slate.state.sheet.whole
    (inside-places_in d.scan.dims area is.bottom is.right)
    (λ at inside. rw (is_listed-places_in area at) refl)

-- put
listed-image : (d : Size) (to : Place) (size : Size) (at : Place) → IsInside d to → IsInside d at
    → is_listed (places_in (image d to size)) at ≡ is_within to size at
listed-image d to size at start inside = is_listed-places_in (image d to size) at
    ∙ in-image d to size at start inside

after_put : (d : Slate) (to : Place) (block : Sheet) → IsSlate d → IsInside d.scan.dims to
    → slate_after_all d (write_each (glyph_from block to)
    (places_in (image d.scan.dims to block.dims)))
    ≡ slate_after_edit d (sheet_after_put (sheet_of d.scan) to block)
    (put_places d.scan.dims to block.dims)
after_put d to block slate start =
    let fits = image-fits d.scan.dims to block.dims start in
    after_writes d (glyph_from block to) (places_in (image d.scan.dims to block.dims))
    (λ at. if is_within to block.dims at then glyph_from block to at else glyph_at
    (sheet_of d.scan) at)
    slate.state.sheet.size slate.state.sheet.whole
    (inside-places_in d.scan.dims (image d.scan.dims to block.dims) fits.bottom fits.right)
    (λ at inside. ap (λ (b : Bool). if b then glyph_from block to at else glyph_at
    (sheet_of d.scan) at) (listed-image d.scan.dims to block.dims at start inside))

pub put_as : (d e : Slate) (dims : Size) (to : Place) (block : Sheet) (h w width : ℕ) (area : Area)
    (cells : List ℕ) → IsSlate d → IsInside d.scan.dims to
    → dims ≡ d.scan.dims → h ≡ block.dims.h → w ≡ block.dims.w → width ≡ block.dims.w
    → cells ≡ block.cells → area ≡ image dims to (record { h = h; w = w })
    → e ≡ slate_after_all d
    (write_each (glyph_from (rows_of_width width cells) (corner_of area)) (places_in area))
    → e ≡ slate_after_edit d (sheet_after_put (sheet_of d.scan) to block)
    (put_places d.scan.dims to block.dims)
put_as d e dims to block h w width area cells slate start same rows columns whole glyphs is left =
    (rw (is, same, rows, columns, whole, glyphs) at left) ∙ after_put d to block slate start

pub length-put : (d dims : Size) (to : Place) (size : Size) (h w : ℕ) (area : Area) → dims ≡ d
    → h ≡ size.h → w ≡ size.w → area ≡ image dims to (record { h = h; w = w })
    → area.h * area.w ≡ length (put_places d to size)
length-put d dims to size h w area same rows columns is = rw (is, same, rows, columns)
    (sym (length-places_in (image d to size)))

-- shift
moved_glyph : (g : Sheet) (area : Area) (to at : Place) → is_within to (size_of area) at ≡ true
    → glyph_from (block_of g area) to at ≡ glyph_at g (moved to (corner_of area) at)
moved_glyph g area to at is =
    let first = and_parts _ _ is in
    let second = and_parts _ _ first.0 in
    let third = and_parts _ _ second.0 in
    let top : to.y ≤ at.y = leb-true _ _ third.0 in
    let bottom : at.y < to.y + area.h = ltb-true _ _ third.1 in
    let left : to.x ≤ at.x = leb-true _ _ second.1 in
    let right : at.x < to.x + area.w = ltb-true _ _ first.1 in
    let inside : IsInside (size_of area) (moved to origin at) = record
    { row = omega arith; column = omega arith } in
    let row : area.y + (0 + (at.y - to.y) - 0) ≡ area.y + (at.y - to.y) = omega arith in
    let column : area.x + (0 + (at.x - to.x) - 0) ≡ area.x + (at.x - to.x) = omega arith in
    glyph_at-sheet_by (size_of area) (λ p. glyph_at g (moved origin (corner_of area) p))
    (moved to origin at) inside
    ∙ (ap (λ (y : ℕ). glyph_at g (record { y = y; x = area.x + (0 + (at.x - to.x) - 0) })) row
    ∙ ap (λ (x : ℕ). glyph_at g (record { y = area.y + (at.y - to.y); x = x })) column)

by_tests : (in_image in_area : Bool) (x y z w : ℕ) → (in_image ≡ true → x ≡ w)
    → (if in_image then x else (if not in_image && in_area then y else z))
    ≡ (if in_image then w else (if in_area then y else z))
by_tests true in_area x y z w same = same refl
by_tests false in_area x y z w same = refl

after_shift : (d : Slate) (area : Area) (to : Place) → IsSlate d → IsArea d.scan.dims area
    → IsInside d.scan.dims to
    → slate_after_all (slate_after_all d
    (write_each (λ at. empty) (places_outside area (image d.scan.dims to (size_of area)))))
    (write_each (glyph_from (block_of (sheet_of d.scan) area) to)
    (places_in (image d.scan.dims to (size_of area))))
    ≡ slate_after_edit d (sheet_after_move (sheet_of d.scan) area to)
    (shift_places d.scan.dims area to)
after_shift d area to slate is start =
    let target : Area = image d.scan.dims to (size_of area) in
    let fits = image-fits d.scan.dims to (size_of area) start in
    let g : Sheet = sheet_of d.scan in
    let left : Place → ℕ = λ at. if is_listed (places_outside area target) at then empty else
    glyph_at g at in
    let between : Slate = slate_after_edit d (sheet_by d.scan.dims left)
    (places_outside area target) in
    ap (λ (e : Slate). slate_after_all e
    (write_each (glyph_from (block_of g area) to) (places_in target)))
    (after_writes d (λ at. empty) (places_outside area target) left slate.state.sheet.size
    slate.state.sheet.whole
    (inside-places_outside d.scan.dims area target is.bottom is.right) (λ at inside. refl))
    ∙ (after_writes between (glyph_from (block_of g area) to) (places_in target)
    (λ at. if is_within to (size_of area) at then glyph_at g (moved to (corner_of area) at) else
    (if is_in_area area at then empty else glyph_at g at))
    slate.state.sheet.size (length-by_place d.scan.dims left)
    (inside-places_in d.scan.dims target fits.bottom fits.right)
    (λ at inside.
    let there = in-image d.scan.dims to (size_of area) at start inside in
    ap (λ (n : ℕ). if is_listed (places_in target) at then glyph_from (block_of g area) to at else
    n)
    (glyph_at-sheet_by d.scan.dims left at inside
    ∙ ap (λ (b : Bool). if b then empty else glyph_at g at)
    (is_listed-places_outside area target at
    ∙ ap (λ (b : Bool). not b && is_in_area area at) there))
    ∙ (ap (λ (b : Bool). if b then glyph_from (block_of g area) to at else
    (if not (is_within to (size_of area) at) && is_in_area area at then empty else glyph_at g at))
    (listed-image d.scan.dims to (size_of area) at start inside)
    ∙ by_tests (is_within to (size_of area) at) (is_in_area area at) _ empty (glyph_at g at) _
    (moved_glyph g area to at)))
    ∙ edit-edit d (sheet_by d.scan.dims left) (sheet_after_move g area to)
    (places_outside area target) (places_in target))

pub shift_as : (d e f : Slate) (dims : Size) (area : Area) (to : Place) (target : Area)
    (cells : List ℕ) → IsSlate d → IsArea d.scan.dims area → IsInside d.scan.dims to
    → dims ≡ d.scan.dims → target ≡ image dims to (size_of area)
    → cells ≡ (block_of (sheet_of d.scan) area).cells
    → e ≡ slate_after_all d (write_each (λ at. empty) (places_outside area target))
    → f ≡ slate_after_all e
    (write_each (glyph_from (rows_of_width area.w cells) (corner_of target)) (places_in target))
    → f ≡ slate_after_edit d (sheet_after_move (sheet_of d.scan) area to)
    (shift_places d.scan.dims area to)
shift_as d e f dims area to target cells slate is start same target_is glyphs cleared left =
    (rw (cleared, target_is, same, glyphs) at left) ∙ after_shift d area to slate is start

pub length-shift : (d dims : Size) (area : Area) (to : Place) (target : Area) → dims ≡ d
    → target ≡ image dims to (size_of area)
    → length (places_outside area target) + target.h * target.w ≡ length (shift_places d area to)
length-shift d dims area to target same is =
    rw (is, same)
    (omega (
      arith,
      length-append (places_outside area (image d to (size_of area)))
          (places_in (image d to (size_of area))),
      length-places_in (image d to (size_of area)),
    ))

-- A room that a grid was printed into.
use Rattle.std.proofs.Common.{◌≡◌, ℕ, ◌<◌, ◌≤◌, true, false, Some, None, List, [], ◌∷◌, ◌++◌, length, refl, ap, ◌∙◌, append_assoc, arith}
use Rattle.std.specs.Prelude.{Option}
use Rattle.std.specs.List.{AllByRecursion, flat_map}
use Rattle.std.specs.Option.{option_map}
use Rattle.std.proofs.lemmas.Bool.{ne_eqb}
use Rattle.std.proofs.lemmas.List.Elements.{All-from_get_or, recursion_from_All}
use Rattle.std.proofs.lemmas.List.FromFn.{length-map-range_with_len, get_or-map-range_with_len}
use Rattle.orca_base.specs.Ascii.{line_feed}
use Rattle.orca_base.specs.Glyphs.{IsGlyph}
use Rattle.orca_base.specs.Grids.{IsSheet, Sheet, glyph_at}
use Rattle.orca_base.proofs.SheetFacts.{IsGlyph-glyph_at}
use Rattle.orca_grid.specs.GridText.{line, row_of, rows_of, text_of}
use Rattle.orca_cues.specs.Rooms.{Room, begun_with, parted_from, room_parts}
use Rattle.orca_cues.proofs.Parting.{front_of, parts_more, parts_here, IsInside}

-- ---- rows

front-line : (room : Option Room)
    → option_map (begun_with line_feed) room ≡ front_of (line_feed ∷ []) room
front-line None = refl
front-line (Some room) = refl

front-more : (byte : ℕ) (bytes : List ℕ) (room : Option Room)
    → option_map (begun_with byte) (front_of bytes room) ≡ front_of (byte ∷ bytes) room
front-more byte bytes None = refl
front-more byte bytes (Some room) = refl

-- the rest of a line
line-parts : (bytes more : List ℕ) → AllByRecursion IsInside bytes
    → parted_from false (bytes ++ line_feed ∷ more)
    ≡ front_of (bytes ++ line_feed ∷ []) (parted_from true more)
line-parts [] more free = parts_more false line_feed more refl ∙ front-line (parted_from true more)
line-parts (byte ∷ bytes) more free =
    parts_more false byte (bytes ++ line_feed ∷ more) refl
    ∙ rw (ne_eqb byte line_feed free.0)
    (ap (option_map (begun_with byte)) (line-parts bytes more free.1)
    ∙ front-more byte (bytes ++ line_feed ∷ []) (parted_from true more))

-- a row has a cell, and none of its bytes ends a line
abbrev IsRow : List ℕ → Type 0
IsRow row = (1 ≤ length row) × AllByRecursion IsInside row

row-parts : (row more : List ℕ) → IsRow row
    → parted_from true (row ++ line_feed ∷ more) ≡ front_of (line row) (parted_from true more)
row-parts [] more is = absurd (omega (arith, is.0))
row-parts (byte ∷ bytes) more is =
    let free = is.1 in
    let other = ne_eqb byte line_feed free.0 in
    parts_more true byte (bytes ++ line_feed ∷ more) other
    ∙ rw other
    (ap (option_map (begun_with byte)) (line-parts bytes more free.1)
    ∙ front-more byte (bytes ++ line_feed ∷ []) (parted_from true more))

front-twice : (xs ys : List ℕ) (script : List ℕ)
    → front_of xs (Some (record { grid = ys; script = script }))
    ≡ Some (record { grid = xs ++ ys; script = script })
front-twice xs ys script = refl

rows-parts : (rows : List (List ℕ)) (script : List ℕ) → AllByRecursion IsRow rows
    → parted_from true (flat_map line rows ++ line_feed ∷ script)
    ≡ Some (record { grid = flat_map line rows; script = script })
rows-parts [] script are = parts_here true line_feed script refl
rows-parts (row ∷ rows) script are =
    let rest = flat_map line rows ++ line_feed ∷ script in
    ap (parted_from true) (append_assoc (line row) (flat_map line rows) (line_feed ∷ script)
    ∙ append_assoc row (line_feed ∷ []) rest)
    ∙ (row-parts row rest are.0 ∙ ap (front_of (line row)) (rows-parts rows script are.1))

-- ---- the rows of a grid

glyph-inside : (byte : ℕ) → IsGlyph byte → IsInside byte
glyph-inside byte glyph same = omega (arith, glyph.0, same)

cell-inside : (g : Sheet) (y x : ℕ) → IsSheet g → y < g.dims.h → x < g.dims.w
    → IsInside (glyph_at g (record { y = y; x = x }))
cell-inside g y x sheet row column =
    glyph-inside (glyph_at g (record { y = y; x = x }))
    (IsGlyph-glyph_at g (record { y = y; x = x }) sheet (record { row = row; column = column }))

row-is : (g : Sheet) (y : ℕ) → IsSheet g → y < g.dims.h → IsRow (row_of g y)
row-is g y sheet below =
    let cell = λ (x : ℕ). glyph_at g (record { y = y; x = x }) in
    let wide = length-map-range_with_len cell 0 g.dims.w in (
      omega (arith, wide, sheet.size.columns),
      recursion_from_All IsInside (row_of g y) (All-from_get_or IsInside (row_of g y) 0 (λ x here.
          let column : x < g.dims.w = omega (arith, here, wide) in
          rw (get_or-map-range_with_len cell 0 g.dims.w x x 0 column (omega arith))
          (cell-inside g y x sheet below column))),
    )

rows-are : (g : Sheet) → IsSheet g → AllByRecursion IsRow (rows_of g)
rows-are g sheet =
    let high = length-map-range_with_len (row_of g) 0 g.dims.h in
    recursion_from_All IsRow (rows_of g) (All-from_get_or IsRow (rows_of g) [] (λ y here.
    let row : y < g.dims.h = omega (arith, here, high) in
    rw (get_or-map-range_with_len (row_of g) 0 g.dims.h y y [] row (omega arith))
    (row-is g y sheet row)))

pub printed_parts : (g : Sheet) (script : List ℕ) → IsSheet g
    → room_parts (text_of g ++ line_feed ∷ script)
    ≡ Some (record { grid = text_of g; script = script })
unfolding text_of
printed_parts g script sheet = rows-parts (rows_of g) script (rows-are g sheet)

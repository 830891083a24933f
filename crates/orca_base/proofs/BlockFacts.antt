-- A block with a glyph in a cell, by its cells in reading order.
use Rattle.std.proofs.Common.{◌≡◌, ℕ, ◌+◌, ◌-◌, ◌*◌, ◌/◌, ◌%◌, ◌<◌, ◌≤◌, Bool, false, List, [], ◌∷◌, ◌++◌, length, get_or, take, map, max, refl, arith, ap, sym, ◌∙◌, inl, inr, zero-add}
use Rattle.std.proofs.Math.ListN.{set}
use Rattle.std.proofs.Math.Nat.{div-lt_iff_lt-mul}
use Rattle.std.specs.List.{range_with_len}
use Rattle.std.specs.Prelude.{if◌then◌else◌, replicate, slice_index}
use Rattle.std.proofs.lemmas.Bool.{cases_Bool, cases_eq, cases_lt}
use Rattle.std.proofs.lemmas.List.{ext_get_or, get_or-append_right, get_or-replicate, get_or-set_other, get_or-set_same, get_or_append_left, length-append, length-replicate, length-set, take_all}
use Rattle.std.proofs.lemmas.List.FromFn.{map-range_with_len_more}
use Rattle.orca_base.specs.declared.place.Place.{Place}
use Rattle.orca_base.specs.Edits.{block_with, cell_with}
use Rattle.orca_base.specs.Glyphs.{empty}
use Rattle.orca_base.specs.Grids.{Size, Sheet, IsInside, by_place, cells_of, glyph_at, index_of, is_inside, is_place, place_of}
use Rattle.orca_base.proofs.PlaceFacts.{index-below, inside-is_inside, is_inside-inside, is_place-refl, is_place-same, place_of-index_of}
use Rattle.orca_base.proofs.SheetFacts.{length-by_place, number-by_place}

-- ---- the cell of a number

number-place : (w n : ℕ) → 0 < w → n / w * w + n % w ≡ n
number-place w n some = grind arith

-- the place of a number is another one
apart-place : (d : Size) (at : Place) (n : ℕ) → 0 < d.w → (n ≡ index_of d at → ⊥)
    → is_place (place_of d n) at ≡ false
apart-place d at n some apart = elim (cases_Bool (is_place (place_of d n) at)) [
  | inl same ↦
      absurd (apart (sym (number-place d.w n some)
      ∙ ap (index_of d) (is_place-same (place_of d n) at same)))
  | inr other ↦ other
]

inside-place : (d : Size) (n : ℕ) → 0 < d.w → n < cells_of d → IsInside d (place_of d n)
inside-place d n some below = record {
  row = (div-lt_iff_lt-mul {k = d.w} {x = n} {y = d.h} some).1 below;
  column = omega (arith, some);
}

-- a place of the rows of a block lies in it, and one below them doesn't
below-place : (d : Size) (n : ℕ) → 0 < d.w → cells_of d ≤ n → is_inside d (place_of d n) ≡ false
below-place d n some below = elim (cases_Bool (is_inside d (place_of d n))) [
  | inl inside ↦
      let row : n / d.w < d.h = (inside-is_inside d (place_of d n) inside).row in
      let few : n < cells_of d = (div-lt_iff_lt-mul {k = d.w} {x = n} {y = d.h} some).0 row in
      absurd (omega (arith, few, below))
  | inr outside ↦ outside
]

-- the cell itself, another one of the block, and one below it
cell-here : (block : Sheet) (d : Size) (at : Place) (glyph n : ℕ) → IsInside d at
    → n ≡ index_of d at → cell_with block at glyph (place_of d n) ≡ glyph
cell-here block d at glyph n inside same =
    let here : place_of d n ≡ at = ap (place_of d) same ∙ place_of-index_of d at inside in
    ap (cell_with block at glyph) here
    ∙ ap (λ (b : Bool). if b then glyph
    else (if is_inside block.dims at then glyph_at block at else empty)) (is_place-refl at)

cell-other : (block : Sheet) (at : Place) (glyph n : ℕ) → 0 < block.dims.w
    → (n ≡ index_of block.dims at → ⊥) → n < cells_of block.dims
    → cell_with block at glyph (place_of block.dims n) ≡ slice_index block.cells n
cell-other block at glyph n some apart below =
    rw (
      apart-place block.dims at n some apart,
      is_inside-inside block.dims (place_of block.dims n) (inside-place block.dims n some below),
    ) (ap (slice_index block.cells) (number-place block.dims.w n some))

cell-below : (block : Sheet) (at : Place) (glyph n : ℕ) → 0 < block.dims.w
    → (n ≡ index_of block.dims at → ⊥) → cells_of block.dims ≤ n
    → cell_with block at glyph (place_of block.dims n) ≡ empty
cell-below block at glyph n some apart below =
    rw (apart-place block.dims at n some apart, below-place block.dims n some below) refl

-- cells in reading order make the block with the glyph
pub laid-out : (block : Sheet) (h w : ℕ) (cells : List ℕ) (at : Place) (glyph : ℕ)
    → h ≡ max block.dims.h (at.y + 1) → w ≡ max block.dims.w (at.x + 1)
    → cells ≡ by_place (record { h = h; w = w }) (cell_with block at glyph)
    → (record { dims = record { h = h; w = w }; cells = cells }) ≡ block_with block at glyph
laid-out block h w cells at glyph tall wide are = rw (are, tall, wide) refl

-- ---- rows that are added

-- cells that others follow, one of which is set
get-more : (old : List ℕ) (more i glyph n : ℕ) → (n ≡ i → ⊥) → n < length old
    → get_or (set (old ++ replicate more empty) i glyph) n 0 ≡ get_or old n 0
get-more old more i glyph n apart below =
    get_or-set_other (old ++ replicate more empty) i n glyph 0 apart
    ∙ get_or_append_left old (replicate more empty) 0 n below

get-new : (old : List ℕ) (more i glyph n : ℕ) → (n ≡ i → ⊥) → length old ≤ n
    → n < length old + more → get_or (set (old ++ replicate more empty) i glyph) n 0 ≡ empty
get-new old more i glyph n apart after below =
    get_or-set_other (old ++ replicate more empty) i n glyph 0 apart
    ∙ (get_or-append_right old (replicate more empty) (length old) n 0 refl after
    ∙ get_or-replicate more (n - length old) empty 0 (omega (arith, after, below)))

length-more : (old : List ℕ) (more i glyph : ℕ)
    → length (set (old ++ replicate more empty) i glyph) ≡ length old + more
length-more old more i glyph =
    length-set (old ++ replicate more empty) i glyph
    ∙ (length-append old (replicate more empty)
    ∙ ap (λ (n : ℕ). length old + n) (length-replicate more empty))

-- the cells of a block with so many more, and one set, are those of the block with the glyph
cells-below : (block : Sheet) (h more : ℕ) (at : Place) (glyph : ℕ)
    → length block.cells ≡ cells_of block.dims → at.x < block.dims.w → at.y < h
    → cells_of block.dims + more ≡ h * block.dims.w
    → set (block.cells ++ replicate more empty) (index_of block.dims at) glyph
    ≡ by_place (record { h = h; w = block.dims.w }) (cell_with block at glyph)
cells-below block h more at glyph whole column row size =
    let d : Size = record { h = h; w = block.dims.w } in
    let cells : List ℕ =
    set (block.cells ++ replicate more empty) (index_of block.dims at) glyph in
    let all : length cells ≡ cells_of d =
    omega (arith, length-more block.cells more (index_of block.dims at) glyph, whole, size) in
    let some : 0 < block.dims.w = omega (arith, column) in
    ext_get_or 0 cells (by_place d (cell_with block at glyph))
    (all ∙ sym (length-by_place d (cell_with block at glyph)))
    (λ n below.
    let few : n < cells_of d = omega (arith, below, all) in
    let read : get_or (by_place d (cell_with block at glyph)) n 0
    ≡ cell_with block at glyph (place_of block.dims n) =
    number-by_place d (cell_with block at glyph) n 0 few in
    elim (cases_eq n (index_of block.dims at)) [
      | inl same ↦
          ap (λ (k : ℕ). get_or cells k 0) same
          ∙ (get_or-set_same (block.cells ++ replicate more empty) (index_of block.dims at) glyph 0
          (omega (
            arith,
            index-below at.y at.x h block.dims.w row column,
            length-append block.cells (replicate more empty),
            length-replicate more empty,
            whole,
            size,
          ))
          ∙ sym (read ∙ cell-here block d at glyph n (record { row = row; column = column }) same))
      | inr apart ↦ elim (cases_lt n (cells_of block.dims)) [
        | inl inside ↦
            get-more block.cells more (index_of block.dims at) glyph n apart
            (omega (arith, inside, whole))
            ∙ sym (read ∙ cell-other block at glyph n some apart inside)
        | inr after ↦
            get-new block.cells more (index_of block.dims at) glyph n apart
            (omega (arith, after, whole)) (omega (arith, few, whole, size))
            ∙ sym (read ∙ cell-below block at glyph n some apart after)
      ]
    ])

-- so a block that got rows, and then the glyph
pub put-below : (block : Sheet) (h size i : ℕ) (at : Place) (glyph : ℕ) (grown : List ℕ)
    → length block.cells ≡ cells_of block.dims → at.x < block.dims.w
    → h ≡ max block.dims.h (at.y + 1) → size ≡ h * block.dims.w
    → i ≡ index_of block.dims at
    → grown ≡ take size block.cells ++ replicate (size - length block.cells) empty
    → (record { dims = record { h = h; w = block.dims.w }; cells = set grown i glyph })
    ≡ block_with block at glyph
put-below block h size i at glyph grown whole column most all there laid =
    let more : ℕ = size - length block.cells in
    let rows : block.dims.h * block.dims.w ≤ h * block.dims.w = grind (arith, most) in
    let stay : take size block.cells ≡ block.cells =
    take_all size block.cells (omega (arith, whole, all, rows)) in
    let all_rows : grown ≡ block.cells ++ replicate more empty =
    laid ∙ ap (λ (xs : List ℕ). xs ++ replicate more empty) stay in
    let cells : set (block.cells ++ replicate more empty) (index_of block.dims at) glyph
    ≡ by_place (record { h = h; w = block.dims.w }) (cell_with block at glyph) =
    cells-below block h more at glyph whole column (omega (arith, most))
    (omega (arith, whole, all, rows)) in
    laid-out block h block.dims.w (set grown i glyph) at glyph most (omega (arith, column))
    (rw (all_rows, there) cells)

-- ---- a block that is laid out anew

-- the first cells of the block with the glyph
abbrev pub first_cells : Sheet → Place → ℕ → Size → ℕ → List ℕ
first_cells block at glyph d n =
    map (λ i. cell_with block at glyph (place_of d i)) (range_with_len 0 n)

-- one cell more is laid
pub first_cells-more : (block : Sheet) (at : Place) (glyph : ℕ) (d : Size) (n : ℕ)
    (laid : List ℕ) (cell : ℕ) → laid ≡ first_cells block at glyph d n
    → cell ≡ cell_with block at glyph (place_of d n)
    → laid ++ cell ∷ [] ≡ first_cells block at glyph d (n + 1)
first_cells-more block at glyph d n laid cell before is =
    ap (λ (xs : List ℕ). xs ++ cell ∷ []) before
    ∙ (ap (λ (x : ℕ). first_cells block at glyph d n ++ x ∷ []) is
    ∙ sym (map-range_with_len_more (λ i. cell_with block at glyph (place_of d i)) 0 n n
    (zero-add n)))

-- all are laid
pub all_cells : (block : Sheet) (at : Place) (glyph : ℕ) (d : Size) (n : ℕ) (laid : List ℕ)
    → laid ≡ first_cells block at glyph d n → n ≡ d.h * d.w
    → laid ≡ by_place d (cell_with block at glyph)
unfolding by_place
all_cells block at glyph d n laid before all =
    before ∙ ap (first_cells block at glyph d) all

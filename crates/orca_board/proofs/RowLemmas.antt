-- Cells that are written and emptied row by row.
use Rattle.std.proofs.Common.{◌≡◌, ℕ, ◌+◌, ◌-◌, ◌*◌, ◌<◌, ◌≤◌, Bool, true, false, ◌&&◌, List, length, length-drop, get_or, take, drop, subst, refl, arith, ap, sym, ◌∙◌, inl, inr, rules}
use borrow.Rule.Slice.PartMut.{put_mid}
use Rattle.std.proofs.Math.ListN.{set}
use Rattle.std.specs.Prelude.{if◌then◌else◌, nat_le, nat_lt, slice_index}
use Rattle.std.proofs.lemmas.Bool.{and_parts, both_ways, cases_Bool, cases_lt, le-leb, le-ltb, leb-true, lt-ltb, ltb-true}
use Rattle.std.proofs.lemmas.Bool.Decides.{eqb_tells}
use Rattle.std.proofs.lemmas.List.{places, get_or-drop, get_or-set_other, get_or-set_same, get_or-take, length-take-le}
use Rattle.orca_base.specs.declared.limits.TheConstants.{MAX_CELLS, MAX_COLUMNS}
use Rattle.orca_base.specs.declared.place.Place.{Place}
use Rattle.orca_base.specs.Glyphs.{AreGlyphs, IsGlyph, empty}
use Rattle.orca_base.specs.Grids.{Size, IsSize, IsInside, cells_of, index_of, is_inside, largest, place_of}
use Rattle.orca_base.proofs.PlaceFacts.{index_of-place_of, inside-place_of, is_inside-inside}
use Rattle.orca_base.proofs.SheetFacts.{IsGlyph-index}
use Rattle.orca_board.specs.Board.{IsEmptyOutside, cell_in}
use Rattle.orca_board.proofs.BoardLemmas.{inside-largest, most_size}
use Rattle.orca_board.proofs.RunLemmas.{row-fits}

-- a cell of a run that was written over
pub put_at : (first many : ℕ) (cells run : List ℕ) (i : ℕ) → first ≤ length cells → i < length run
    → slice_index (put_mid first many cells run) (first + i) ≡ slice_index run i
put_at first many cells run i inside few = search (rules, places)

-- one cell more is empty
pub emptied-more : (cells initial : List ℕ) (first i n : ℕ) → first ≤ i → i < length cells
    → slice_index cells n
    ≡ (if nat_le first n && nat_lt n i then empty else slice_index initial n)
    → slice_index (set cells i empty) n
    ≡ (if nat_le first n && nat_lt n (i + 1) then empty else slice_index initial n)
emptied-more cells initial first i n from below before = elim (eqb_tells n i) [
  | inl same ↦
      let low : nat_le first n ≡ true = le-leb first n (omega (arith, same.1, from)) in
      let high : nat_lt n (i + 1) ≡ true = lt-ltb n (i + 1) (omega (arith, same.1)) in
      rw (low, high, same.1) (get_or-set_same cells i empty 0 below)
  | inr other ↦
      get_or-set_other cells i n empty 0 other.1
      ∙ (before ∙ ap (λ (b : Bool). if nat_le first n && b then empty else slice_index initial n)
      (elim (cases_lt n i) [
        | inl less ↦ lt-ltb n i less ∙ sym (lt-ltb n (i + 1) (omega (arith, less)))
        | inr more ↦ le-ltb n i more
            ∙ sym (le-ltb n (i + 1) (omega (arith, more, other.1)))
      ]))
]

-- a place below the last row lies outside
below-last : (d : Size) (at : Place) → d.h ≤ at.y → is_inside d at ≡ false
below-last d at past = rw (le-ltb at.y d.h past) refl

-- all cells are empty where those of the rows and those outside are
pub empty-rows : (d : Size) (cells : List ℕ) (h : ℕ) → d.h ≤ h
    → ((at : Place) → IsInside largest at → at.y < h → cell_in cells at ≡ empty)
    → IsEmptyOutside d cells → (n : ℕ) → n < MAX_CELLS → slice_index cells n ≡ empty
empty-rows d cells h all rows outside n few =
    ap (λ (k : ℕ). slice_index cells k) (sym (index_of-place_of largest n most_size))
    ∙ (elim (cases_lt (place_of largest n).y h) [
      | inl below ↦ rows (place_of largest n) (inside-place_of largest n most_size few) below
      | inr past ↦ outside (place_of largest n) (inside-place_of largest n most_size few)
          (below-last d (place_of largest n) (omega (arith, past, all)))
    ])

-- what is known of cells into which the glyphs of a row were laid
pub record IsLaidRow (d : Size) (glyphs old new part : List ℕ) (n : ℕ) : Type 0 where
  pub size : IsSize d
  pub few : n < d.h
  pub whole : length glyphs ≡ cells_of d
  pub is_part : part ≡ take d.w (drop (n * d.w) glyphs)
  pub cells : (k : ℕ) → slice_index new k
      ≡ (if nat_le (n * MAX_COLUMNS) k && nat_lt k (n * MAX_COLUMNS + length part)
      then slice_index part (k - n * MAX_COLUMNS) else slice_index old k)

-- the glyphs of a row, as the code cuts them out
abbrev pub part_of : ℕ → ℕ → List ℕ → List ℕ
part_of n columns glyphs =
    take (n * columns + columns - n * columns) (drop (n * columns) glyphs)

pub part-is : (n columns w : ℕ) (glyphs : List ℕ) → columns ≡ w
    → part_of n columns glyphs ≡ take w (drop (n * w) glyphs)
part-is n columns w glyphs same =
    let many : n * w + w - n * w ≡ w = omega arith in
    rw (same, many) refl

length-part : (d : Size) (glyphs old new part : List ℕ) (n : ℕ)
    → IsLaidRow d glyphs old new part n → length part ≡ d.w
length-part d glyphs old new part n laid =
    ap (λ (xs : List ℕ). length xs) laid.is_part
    ∙ length-take-le d.w (drop (n * d.w) glyphs)
    (omega (arith, length-drop (n * d.w) glyphs, laid.whole, row-fits d.h n d.w laid.few))

part-at : (d : Size) (glyphs old new part : List ℕ) (n k : ℕ)
    → IsLaidRow d glyphs old new part n → k < d.w → get_or part k 0 ≡ get_or glyphs (n * d.w + k) 0
part-at d glyphs old new part n k laid few =
    ap (λ (xs : List ℕ). get_or xs k 0) laid.is_part
    ∙ (get_or-take d.w (drop (n * d.w) glyphs) k 0 few ∙ get_or-drop (n * d.w) glyphs k 0)

-- a place of the row holds its glyph
laid-here : (d : Size) (glyphs old new part : List ℕ) (n : ℕ) (at : Place)
    → IsLaidRow d glyphs old new part n → IsInside d at → at.y ≡ n
    → cell_in new at ≡ slice_index glyphs (index_of d at)
laid-here d glyphs old new part n at laid inside same =
    let many : length part ≡ d.w = length-part d glyphs old new part n laid in
    let low : nat_le (n * MAX_COLUMNS) (index_of largest at) ≡ true =
    le-leb (n * MAX_COLUMNS) (index_of largest at) (omega (arith, same)) in
    let high : nat_lt (index_of largest at) (n * MAX_COLUMNS + length part) ≡ true =
    lt-ltb (index_of largest at) (n * MAX_COLUMNS + length part)
    (omega (arith, same, many, inside.column)) in
    let column : index_of largest at - n * MAX_COLUMNS ≡ at.x = omega (arith, same) in
    laid.cells (index_of largest at)
    ∙ (rw (low, high) (ap (λ (k : ℕ). get_or part k 0) column))
    ∙ (part-at d glyphs old new part n at.x laid inside.column
    ∙ ap (λ (y : ℕ). get_or glyphs (y * d.w + at.x) 0) (sym same))

-- every other place holds what it held
laid-other : (d : Size) (glyphs old new part : List ℕ) (n : ℕ) (at : Place)
    → IsLaidRow d glyphs old new part n → IsInside largest at → (at.y ≡ n → at.x < d.w → ⊥)
    → cell_in new at ≡ cell_in old at
laid-other d glyphs old new part n at laid inside other =
    let k : ℕ = index_of largest at in
    let many : length part ≡ d.w = length-part d glyphs old new part n laid in
    laid.cells (index_of largest at)
    ∙ (elim (cases_Bool (nat_le (n * MAX_COLUMNS) (index_of largest at)
    && nat_lt (index_of largest at) (n * MAX_COLUMNS + length part))) [
      | inl is ↦
          let parts = and_parts _ _ is in
          let low : n * MAX_COLUMNS ≤ index_of largest at = leb-true _ _ parts.0 in
          let high : index_of largest at < n * MAX_COLUMNS + length part =
          ltb-true _ _ parts.1 in
          let columns : d.w ≤ MAX_COLUMNS = laid.size.few_columns in
          absurd (other (omega (arith, low, high, many, columns, inside.column))
          (omega (arith, low, high, many, columns, inside.column)))
      | inr none ↦ rw none refl
    ])

-- one row more
pub rows-laid : (d : Size) (glyphs old new part : List ℕ) (n : ℕ)
    → IsLaidRow d glyphs old new part n
    → ((at : Place) → IsInside d at → at.y < n
    → cell_in old at ≡ slice_index glyphs (index_of d at))
    → (at : Place) → IsInside d at → at.y < n + 1
    → cell_in new at ≡ slice_index glyphs (index_of d at)
rows-laid d glyphs old new part n laid before at inside below = elim (cases_lt at.y n) [
  | inl above ↦
      laid-other d glyphs old new part n at laid (inside-largest d at laid.size inside)
      (λ same _. absurd (omega (arith, same, above)))
      ∙ before at inside above
  | inr past ↦ laid-here d glyphs old new part n at laid inside (omega (arith, past, below))
]

pub outside-laid : (d : Size) (glyphs old new part : List ℕ) (n : ℕ)
    → IsLaidRow d glyphs old new part n → IsEmptyOutside d old → IsEmptyOutside d new
outside-laid d glyphs old new part n laid empty_before at inside past =
    laid-other d glyphs old new part n at laid inside
    (λ same few.
    let row : at.y < d.h = omega (arith, same, laid.few) in
    both_ways _ past (is_inside-inside d at (record { row = row; column = few })))
    ∙ empty_before at inside past

pub glyphs-laid : (d : Size) (glyphs old new part : List ℕ) (n : ℕ)
    → IsLaidRow d glyphs old new part n → AreGlyphs part
    → ((k : ℕ) → k < n * d.w → IsGlyph (slice_index glyphs k))
    → (k : ℕ) → k < (n + 1) * d.w → IsGlyph (slice_index glyphs k)
glyphs-laid d glyphs old new part n laid all before k below = elim (cases_lt k (n * d.w)) [
  | inl first ↦ before k first
  | inr past ↦
      let more : (n + 1) * d.w ≡ n * d.w + d.w = omega arith in
      let column : k - n * d.w < d.w = omega (arith, past, below, more) in
      let number : n * d.w + (k - n * d.w) ≡ k = omega (arith, past) in
      subst IsGlyph
      (part-at d glyphs old new part n (k - n * d.w) laid column
      ∙ ap (λ (i : ℕ). get_or glyphs i 0) number)
      (IsGlyph-index part (k - n * d.w) all
      (omega (arith, column, length-part d glyphs old new part n laid)))
]

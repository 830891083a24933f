-- Places of a row, in order: the rows of an area, those of them that lie outside another, and what is
-- written to them.
use Rattle.std.proofs.Common.{◌≡◌, ℕ, zero, suc, ◌+◌, ◌-◌, ◌*◌, ◌/◌, ◌%◌, ◌<◌, ◌≤◌, Bool, true, false, not, List, [], ◌∷◌, ◌++◌, length, get_or, append_assoc, refl, arith, ap, sym, ◌∙◌, zero-add, cond, length-append, inl, inr}
use Rattle.std.specs.Prelude.{filter, if◌then◌else◌, map, max, min, nat_le, nat_lt, slice_index}
use Rattle.std.specs.List.{range_with_len}
use Rattle.std.proofs.Math.Numerals.{suc-eq-add-one}
use Rattle.std.proofs.lemmas.Nat.{div-mul-add, mod-mul-add}
use Rattle.std.proofs.Math.Nat.{mul-le-mul_right}
use Rattle.std.proofs.lemmas.Bool.{and_parts, both_ways, cases_Bool, cases_lt, le-leb, le-ltb, leb-true, lt-ltb, ltb-true}
use Rattle.std.proofs.lemmas.Simd.{map-map}
use Rattle.std.proofs.lemmas.List.{append-nil, length-map, map-append}
use Rattle.std.proofs.lemmas.List.Elements.{filter-append}
use Rattle.std.proofs.lemmas.List.FromFn.{length-map-range_with_len, map-range_with_len_more}
use Rattle.orca_base.specs.declared.area.Area.{Area}
use Rattle.orca_base.specs.declared.place.Place.{Place}
use Rattle.orca_base.specs.declared.place.Spot.{Spot}
use Rattle.orca_base.specs.Areas.{corner_of}
use Rattle.orca_base.specs.Edits.{block_of, is_in_area}
use Rattle.orca_base.specs.Grids.{Size, by_place, here}
use Rattle.orca_op.specs.Deeds.{Deed, Write}
use Rattle.orca_op.specs.Slate.{Slate, slate_after, slate_after_all}
use Rattle.orca_op.proofs.LawFacts.{slate_after_all-append}
use Rattle.orca_op.specs.State.{State, state_glyph, sheet_of}
use Rattle.orca_board.specs.Blocks.{crosses, glyph_from, nth_place, places_in, places_outside, row_outside, rows_of_width, row_run, write_each}
use Rattle.orca_board.specs.Sizes.{whole}
use Rattle.orca_board.proofs.BlockPlaces.{IsBetween, between-test, test-between}
use Rattle.orca_board.proofs.BlockLemmas.{first_places, first_places-all, write_each-push}

-- ---- a run

-- the place so many columns to the right
abbrev pub along : Place → ℕ → Place
along at i = record { y = at.y; x = at.x + i }

pub run-more : (at : Place) (n : ℕ) → row_run at (n + 1) ≡ row_run at n ++ along at n ∷ []
run-more at n = map-range_with_len_more (along at) 0 n n (zero-add n)

run-suc : (at : Place) (n : ℕ) → row_run at (suc n) ≡ row_run at n ++ along at n ∷ []
run-suc at n = ap (row_run at) (suc-eq-add-one n) ∙ run-more at n

pub length-run : (at : Place) (n : ℕ) → length (row_run at n) ≡ n
length-run at n = length-map-range_with_len (along at) 0 n

pub length-two_runs : (at to : Place) (m n : ℕ) → length (row_run at m ++ row_run to n) ≡ m + n
length-two_runs at to m n =
    omega (arith, length-append (row_run at m) (row_run to n), length-run at m, length-run to n)

-- one place more is written
pub run_step : (d e f : Slate) (glyph : Place → ℕ) (at : Place) (n : ℕ) (spot : Spot) (g : ℕ)
    → e ≡ slate_after_all d (write_each glyph (row_run at n)) → spot ≡ here (along at n)
    → g ≡ glyph (along at n) → f ≡ slate_after e (Write spot g)
    → f ≡ slate_after_all d (write_each glyph (row_run at (n + 1)))
run_step d e f glyph at n spot g before is glyph_is deed =
    (rw (before, is, glyph_is) at deed)
    ∙ (sym (write_each-push d glyph (row_run at n) (along at n))
    ∙ ap (λ (places : List Place). slate_after_all d (write_each glyph places))
    (sym (run-more at n)))

-- places are written, and then more
pub write_each-append : (d e f : Slate) (glyph : Place → ℕ) (xs ys : List Place)
    → e ≡ slate_after_all d (write_each glyph xs) → f ≡ slate_after_all e (write_each glyph ys)
    → f ≡ slate_after_all d (write_each glyph (xs ++ ys))
write_each-append d e f glyph xs ys before left =
    (rw before at left)
    ∙ (sym (slate_after_all-append d (write_each glyph xs) (write_each glyph ys))
    ∙ ap (slate_after_all d)
    (sym (map-append (λ (p : Place). Write (here p) (glyph p)) xs ys)))

-- functions that agree on a run write the same
pub write_each-same : (f g : Place → ℕ) (at : Place) (n : ℕ)
    → ((i : ℕ) → i < n → f (along at i) ≡ g (along at i))
    → write_each f (row_run at n) ≡ write_each g (row_run at n)
write_each-same f g at zero same = refl
write_each-same f g at (suc n) same =
    pushed f n ∙ (ap (λ (deeds : List Deed). deeds ++ Write (here (along at n)) (f (along at n)) ∷ [])
    (write_each-same f g at n (λ i below. same i (omega (arith, below))))
    ∙ (ap (λ (glyph : ℕ). write_each g (row_run at n) ++ Write (here (along at n)) glyph ∷ [])
    (same n (omega arith))
    ∙ sym (pushed g n)))
  where
    pushed : (f : Place → ℕ) (n : ℕ) → write_each f (row_run at (suc n))
        ≡ write_each f (row_run at n) ++ Write (here (along at n)) (f (along at n)) ∷ []
    pushed f n = ap (write_each f) (run-suc at n)
        ∙ map-append (λ (p : Place). Write (here p) (f p)) (row_run at n) (along at n ∷ [])

-- ---- the rows of an area

place_by : ℕ → ℕ → Place
place_by y x = record { y = y; x = x }

-- the first place of a row of an area
abbrev pub row_at : Area → ℕ → Place
row_at area n = record { y = area.y + n; x = area.x }

-- the places of the first rows of an area
abbrev pub first_rows : Area → ℕ → List Place
first_rows area n = first_places area (n * area.w)

nth-along : (area : Area) (n k : ℕ) → k < area.w
    → nth_place area (n * area.w + k) ≡ along (row_at area n) k
unfolding place_by
nth-along area n k few =
    let row : area.y + ((n * area.w + k) / area.w - 0) ≡ area.y + n =
    omega (arith, div-mul-add n area.w k few) in
    let column : area.x + ((n * area.w + k) % area.w - 0) ≡ area.x + k =
    omega (arith, mod-mul-add n area.w k few) in
    ap (λ (y : ℕ). place_by y (area.x + ((n * area.w + k) % area.w - 0))) row
    ∙ ap (place_by (area.y + n)) column

first_places-more : (area : Area) (n k m : ℕ) → k ≤ area.w → m ≡ n * area.w + k
    → first_places area m ≡ first_rows area n ++ row_run (row_at area n) k
first_places-more area n zero m few is =
    let same : m ≡ n * area.w = omega (arith, is) in
    ap (first_places area) same ∙ sym (append-nil (first_rows area n))
first_places-more area n (suc k) m few is =
    let next : m ≡ n * area.w + k + 1 = omega (arith, is) in
    ap (first_places area) next
    ∙ (map-range_with_len_more (nth_place area) 0 (n * area.w + k) (n * area.w + k)
    (zero-add (n * area.w + k))
    ∙ (ap (λ (places : List Place). places ++ nth_place area (n * area.w + k) ∷ [])
    (first_places-more area n k (n * area.w + k) (omega (arith, few)) refl)
    ∙ (ap (λ (p : Place). first_rows area n ++ row_run (row_at area n) k ++ p ∷ [])
    (nth-along area n k (omega (arith, few)))
    ∙ (append_assoc (first_rows area n) (row_run (row_at area n) k)
    (along (row_at area n) k ∷ [])
    ∙ ap (λ (places : List Place). first_rows area n ++ places)
    (sym (run-suc (row_at area n) k))))))

-- one row more
pub rows-more : (area : Area) (n : ℕ)
    → first_rows area (n + 1) ≡ first_rows area n ++ row_run (row_at area n) area.w
rows-more area n =
    first_places-more area n area.w ((n + 1) * area.w) (omega arith)
    (omega arith)

pub rows-all : (area : Area) → first_rows area area.h ≡ places_in area
rows-all area = first_places-all area

-- one row more is written
pub row_step : (d e f : Slate) (glyph : Place → ℕ) (area : Area) (n : ℕ)
    → e ≡ slate_after_all d (write_each glyph (first_rows area n))
    → f ≡ slate_after_all e (write_each glyph (row_run (row_at area n) area.w))
    → f ≡ slate_after_all d (write_each glyph (first_rows area (n + 1)))
row_step d e f glyph area n before left =
    write_each-append d e f glyph (first_rows area n) (row_run (row_at area n) area.w) before left
    ∙ ap (λ (places : List Place). slate_after_all d (write_each glyph places))
    (sym (rows-more area n))

pub all_rows : (d e : Slate) (glyph : Place → ℕ) (area : Area) (n : ℕ)
    → e ≡ slate_after_all d (write_each glyph (first_rows area n)) → n ≡ area.h
    → e ≡ slate_after_all d (write_each glyph (places_in area))
all_rows d e glyph area n before end =
    before ∙ ap (λ (places : List Place). slate_after_all d (write_each glyph places))
    (ap (first_rows area) end ∙ rows-all area)

-- ---- the places that pass a test

pushed : (keeps : Place → Bool) (xs : List Place) (p : Place) (b : Bool) → keeps p ≡ b
    → filter keeps (xs ++ p ∷ []) ≡ filter keeps xs ++ cond b (p ∷ []) []
pushed keeps xs p b is = filter-append keeps xs (p ∷ [])
    ∙ ap (λ (rest : List Place). filter keeps xs ++ rest) (one b is)
  where
    one : (b : Bool) → keeps p ≡ b → filter keeps (p ∷ []) ≡ cond b (p ∷ []) []
    one true is = rw is refl
    one false is = rw is refl

filter-more : (keeps : Place → Bool) (at : Place) (n : ℕ) (b : Bool) → keeps (along at n) ≡ b
    → filter keeps (row_run at (suc n)) ≡ filter keeps (row_run at n) ++ cond b (along at n ∷ []) []
filter-more keeps at n b is =
    ap (λ (places : List Place). filter keeps places) (run-suc at n)
    ∙ pushed keeps (row_run at n) (along at n) b is

-- a run whose first places pass, whose next ones don't, and whose last ones do
filter-front : (keeps : Place → Bool) (at : Place) (n : ℕ)
    → ((i : ℕ) → i < n → keeps (along at i) ≡ true) → filter keeps (row_run at n) ≡ row_run at n
filter-front keeps at zero all = refl
filter-front keeps at (suc n) all =
    filter-more keeps at n true (all n (omega arith))
    ∙ (ap (λ (places : List Place). places ++ along at n ∷ [])
    (filter-front keeps at n (λ i below. all i (omega (arith, below))))
    ∙ sym (run-suc at n))

filter-middle : (keeps : Place → Bool) (at : Place) (a n m : ℕ) → m ≡ a + n
    → ((i : ℕ) → i < a → keeps (along at i) ≡ true)
    → ((i : ℕ) → a ≤ i → i < m → keeps (along at i) ≡ false)
    → filter keeps (row_run at m) ≡ row_run at a
filter-middle keeps at a zero m is front none =
    let same : m ≡ a = omega (arith, is) in
    ap (λ (k : ℕ). filter keeps (row_run at k)) same ∙ filter-front keeps at a front
filter-middle keeps at a (suc n) m is front none =
    let next : m ≡ suc (a + n) = omega (arith, is) in
    ap (λ (k : ℕ). filter keeps (row_run at k)) next
    ∙ (filter-more keeps at (a + n) false (none (a + n) (omega arith) (omega (arith, is)))
    ∙ (append-nil (filter keeps (row_run at (a + n)))
    ∙ filter-middle keeps at a n (a + n) refl front
    (λ i from below. none i from (omega (arith, below, is)))))

pub filter-run : (keeps : Place → Bool) (at : Place) (a b n m : ℕ) → m ≡ b + n → a ≤ b
    → ((i : ℕ) → i < a → keeps (along at i) ≡ true)
    → ((i : ℕ) → a ≤ i → i < b → keeps (along at i) ≡ false)
    → ((i : ℕ) → b ≤ i → i < m → keeps (along at i) ≡ true)
    → filter keeps (row_run at m) ≡ row_run at a ++ row_run (along at b) n
unfolding place_by
filter-run keeps at a b zero m is below front none back =
    let same : m ≡ b = omega (arith, is) in
    ap (λ (k : ℕ). filter keeps (row_run at k)) same
    ∙ (filter-middle keeps at a (b - a) b (omega (arith, below)) front none
    ∙ sym (append-nil (row_run at a)))
filter-run keeps at a b (suc n) m is below front none back =
    let next : m ≡ suc (b + n) = omega (arith, is) in
    let column : at.x + (b + n) ≡ at.x + b + n = omega arith in
    ap (λ (k : ℕ). filter keeps (row_run at k)) next
    ∙ (filter-more keeps at (b + n) true (back (b + n) (omega arith) (omega (arith, is)))
    ∙ (ap (λ (places : List Place). places ++ along at (b + n) ∷ [])
    (filter-run keeps at a b n (b + n) refl below front none
    (λ i from few. back i from (omega (arith, few, is))))
    ∙ (append_assoc (row_run at a) (row_run (along at b) n) (along at (b + n) ∷ [])
    ∙ ap (λ (places : List Place). row_run at a ++ places)
    (ap (λ (x : ℕ). row_run (along at b) n ++ place_by at.y x ∷ []) column
    ∙ sym (run-suc (along at b) n)))))

-- ---- what is read of a row and of an area

pub length-read : (f : Place → ℕ) (xs : List ℕ) (at : Place) (n : ℕ)
    → length (xs ++ map f (row_run at n)) ≡ length xs + n
length-read f xs at n =
    omega (
      arith,
      length-append xs (map f (row_run at n)),
      length-map (row_run at n) f,
      length-run at n,
    )

pub read-more : (f : Place → ℕ) (xs ys zs : List ℕ) (at : Place) (n g : ℕ)
    → ys ≡ xs ++ map f (row_run at n) → zs ≡ ys ++ g ∷ [] → g ≡ f (along at n)
    → zs ≡ xs ++ map f (row_run at (n + 1))
read-more f xs ys zs at n g before pushed glyph =
    (rw (before, glyph) at pushed)
    ∙ (append_assoc xs (map f (row_run at n)) (f (along at n) ∷ [])
    ∙ ap (λ (rest : List ℕ). xs ++ rest)
    (sym (ap (map f) (run-more at n) ∙ map-append f (row_run at n) (along at n ∷ []))))

pub rows-read : (f : Place → ℕ) (ys zs : List ℕ) (area : Area) (n : ℕ)
    → ys ≡ map f (first_rows area n) → zs ≡ ys ++ map f (row_run (row_at area n) area.w)
    → zs ≡ map f (first_rows area (n + 1))
rows-read f ys zs area n before more =
    (rw before at more)
    ∙ sym (ap (map f) (rows-more area n)
    ∙ map-append f (first_rows area n) (row_run (row_at area n) area.w))

pub length-rows_read : (f : Place → ℕ) (area : Area) (n : ℕ)
    → length (map f (first_rows area n)) ≡ n * area.w
length-rows_read f area n =
    length-map (first_rows area n) f
    ∙ length-map-range_with_len (nth_place area) 0 (n * area.w)

-- a row more has room, where all rows have
pub row-fits : (h n w : ℕ) → n < h → n * w + w ≤ h * w
row-fits h n w below =
    let all : (n + 1) * w ≤ h * w = mul-le-mul_right w (omega (arith, below)) in
    let more : (n + 1) * w ≡ n * w + w = omega arith in
    omega (arith, all, more)

pub all-read : (s : State) (xs : List ℕ) (area : Area) (n : ℕ) → n ≡ area.h
    → xs ≡ map (state_glyph s) (first_rows area n)
    → xs ≡ (block_of (sheet_of s) area).cells
unfolding by_place
all-read s xs area n end read =
    read ∙ (ap (λ (k : ℕ). map (state_glyph s) (first_rows area k)) end
    ∙ map-map (state_glyph s) (nth_place area) (range_with_len 0 (area.h * area.w)))

-- ---- a block's rows

-- the glyphs of a row of a block are those that stand in its places
pub write-row : (cells : List ℕ) (area : Area) (n width first : ℕ) → first ≡ n * width
    → write_each (λ p. slice_index cells (first + (p.x - area.x))) (row_run (row_at area n) area.w)
    ≡ write_each (glyph_from (rows_of_width width cells) (corner_of area)) (row_run (row_at area n) area.w)
write-row cells area n width first is =
    write_each-same (λ p. slice_index cells (first + (p.x - area.x)))
    (glyph_from (rows_of_width width cells) (corner_of area)) (row_at area n) area.w
    (λ i below.
    let row : n ≡ 0 + (area.y + n - area.y) = omega arith in
    let column : first + (area.x + i - area.x) ≡ n * width + (0 + (area.x + i - area.x)) =
    omega (arith, is) in
    ap (λ (k : ℕ). get_or cells k 0) column
    ∙ ap (λ (y : ℕ). get_or cells (y * width + (0 + (area.x + i - area.x))) 0) row)

pub product : (a b n w : ℕ) → a ≡ n → b ≡ w → a * b ≡ n * w
product a b n w row width = rw (row, width) refl

-- ---- the places of a row that lie outside an area

not-in : (other : Area) (at : Place) → (IsBetween other at → ⊥)
    → not (is_in_area other at) ≡ true
not-in other at out = elim (cases_Bool (is_in_area other at)) [
  | inl is ↦ absurd (out (between-test other at is))
  | inr none ↦ ap not none
]

is-in : (other : Area) (at : Place) → IsBetween other at → not (is_in_area other at) ≡ false
is-in other at is = ap not (test-between other at is)

-- a row that lies above or below the area
pub row-beside : (area other : Area) (n : ℕ)
    → crosses other (area.y + n) ≡ false
    → row_outside area n other ≡ row_run (row_at area n) area.w
row-beside area other n out =
    filter-front (λ at. not (is_in_area other at)) (row_at area n) area.w
    (λ i below. not-in other (along (row_at area n) i)
    (λ is. both_ways _ out (rw (
      le-leb other.y (area.y + n) is.top,
      lt-ltb (area.y + n) (other.y + other.h) is.bottom,
    ) refl)))

-- a row that the area crosses, from the column `left` up to `right`
pub row-across : (area other : Area) (n left right : ℕ) → crosses other (area.y + n) ≡ true
    → left ≡ min (max other.x area.x) (area.x + area.w)
    → right ≡ min (max (other.x + other.w) area.x) (area.x + area.w)
    → row_outside area n other
    ≡ row_run (row_at area n) (left - area.x)
    ++ row_run (record { y = area.y + n; x = right }) (area.x + area.w - right)
unfolding place_by
row-across area other n left right is left_is right_is =
    let rows : (nat_le other.y (area.y + n) ≡ true)
    × (nat_lt (area.y + n) (other.y + other.h) ≡ true) = and_parts _ _ is in
    let column : area.x + (right - area.x) ≡ right = omega (arith, right_is) in
    filter-run (λ at. not (is_in_area other at)) (row_at area n) (left - area.x) (right - area.x)
    (area.x + area.w - right) area.w (omega (arith, right_is))
    (omega (arith, left_is, right_is))
    (λ i below. not-in other (along (row_at area n) i)
    (λ is. absurd (omega (arith, is.left, below, left_is))))
    (λ i from below. is-in other (along (row_at area n) i) (record {
      top = leb-true _ _ rows.0;
      bottom = ltb-true _ _ rows.1;
      left = omega (arith, from, below, left_is, right_is);
      right = omega (arith, from, below, left_is, right_is);
    }))
    (λ i from below. not-in other (along (row_at area n) i)
    (λ is. absurd (omega (arith, is.right, from, below, right_is))))
    ∙ ap (λ (x : ℕ). row_run (row_at area n) (left - area.x)
    ++ row_run (place_by (area.y + n) x) (area.x + area.w - right)) column

-- one row more of the places outside
pub rows-outside : (area other : Area) (n : ℕ)
    → filter (λ at. not (is_in_area other at)) (first_rows area (n + 1))
    ≡ filter (λ at. not (is_in_area other at)) (first_rows area n) ++ row_outside area n other
rows-outside area other n =
    ap (λ (places : List Place). filter (λ at. not (is_in_area other at)) places) (rows-more area n)
    ∙ filter-append (λ at. not (is_in_area other at)) (first_rows area n)
    (row_run (row_at area n) area.w)

pub outside_step : (d e f : Slate) (glyph : Place → ℕ) (area other : Area) (n : ℕ)
    → e ≡ slate_after_all d
    (write_each glyph (filter (λ at. not (is_in_area other at)) (first_rows area n)))
    → f ≡ slate_after_all e (write_each glyph (row_outside area n other))
    → f ≡ slate_after_all d
    (write_each glyph (filter (λ at. not (is_in_area other at)) (first_rows area (n + 1))))
outside_step d e f glyph area other n before left =
    write_each-append d e f glyph
    (filter (λ at. not (is_in_area other at)) (first_rows area n)) (row_outside area n other)
    before left
    ∙ ap (λ (places : List Place). slate_after_all d (write_each glyph places))
    (sym (rows-outside area other n))

pub outside_count : (area other : Area) (n : ℕ)
    → length (filter (λ at. not (is_in_area other at)) (first_rows area (n + 1)))
    ≡ length (filter (λ at. not (is_in_area other at)) (first_rows area n))
    + length (row_outside area n other)
outside_count area other n =
    ap (λ (places : List Place). length places) (rows-outside area other n)
    ∙ length-append (filter (λ at. not (is_in_area other at)) (first_rows area n))
    (row_outside area n other)

pub all-outside : (area other : Area) (n : ℕ) → n ≡ area.h
    → filter (λ at. not (is_in_area other at)) (first_rows area n) ≡ places_outside area other
all-outside area other n end =
    ap (λ (places : List Place). filter (λ at. not (is_in_area other at)) places)
    (ap (first_rows area) end ∙ rows-all area)

-- ---- the places that another size cuts off

-- those of a row, from a column on
pub row-cut : (d to : Size) (n x : ℕ) → x ≡ (if nat_lt n to.h then min to.w d.w else 0)
    → row_outside (whole d) n (whole to) ≡ row_run (record { y = n; x = x }) (d.w - x)
unfolding place_by
row-cut d to n x is =
    let wide : x ≤ d.w = elim (cases_lt n to.h) [
      | inl below ↦ let kept = rw (lt-ltb n to.h below) at is in omega (arith, kept)
      | inr past ↦ let none = rw (le-ltb n to.h past) at is in omega (arith, none)
    ] in
    filter-run (λ at. not (is_in_area (whole to) at)) (row_at (whole d) n) 0 x (d.w - x) d.w
    (omega (arith, wide)) (omega arith)
    (λ i below. absurd (omega (arith, below)))
    (λ i from below. is-in (whole to) (along (row_at (whole d) n) i)
    (elim (cases_lt n to.h) [
      | inl few ↦
          let kept = rw (lt-ltb n to.h few) at is in
          record {
            top = omega arith;
            bottom = omega (arith, few);
            left = omega arith;
            right = omega (arith, below, kept);
          }
      | inr past ↦ let none = rw (le-ltb n to.h past) at is in absurd (omega (arith, none, below))
    ]))
    (λ i from below. not-in (whole to) (along (row_at (whole d) n) i)
    (λ inside.
    let few : n < to.h = omega (arith, inside.bottom) in
    let kept = rw (lt-ltb n to.h few) at is in
    absurd (omega (arith, inside.right, from, below, kept))))
    ∙ ap (λ (p : Place). row_run p (d.w - x))
    (ap (λ (y : ℕ). place_by y (0 + x)) (zero-add n) ∙ ap (place_by n) (zero-add x))

pub no-rows : (area other : Area) (n : ℕ) → n ≡ 0
    → filter (λ at. not (is_in_area other at)) (first_rows area n) ≡ []
no-rows area other n none =
    let nothing : 0 * area.w ≡ 0 = omega arith in
    ap (λ (k : ℕ). filter (λ at. not (is_in_area other at)) (first_rows area k)) none
    ∙ ap (λ (k : ℕ). filter (λ at. not (is_in_area other at)) (first_places area k)) nothing

-- the first rows of a size with as many columns lose none
pub none-cut : (d to : Size) (n : ℕ) → n ≤ to.h → d.w ≤ to.w
    → filter (λ at. not (is_in_area (whole to) at)) (first_rows (whole d) n) ≡ []
none-cut d to zero few wide =
    let nothing : 0 * d.w ≡ 0 = omega arith in
    ap (λ (k : ℕ). filter (λ at. not (is_in_area (whole to) at)) (first_places (whole d) k)) nothing
none-cut d to (suc n) few wide =
    let kept : d.w ≡ (if nat_lt n to.h then min to.w d.w else 0) =
    rw (lt-ltb n to.h (omega (arith, few))) (omega (arith, wide)) in
    let nothing : d.w - d.w ≡ 0 = omega arith in
    ap (λ (k : ℕ). filter (λ at. not (is_in_area (whole to) at)) (first_rows (whole d) k))
    (suc-eq-add-one n)
    ∙ (rows-outside (whole d) (whole to) n
    ∙ (ap (λ (places : List Place). places ++ row_outside (whole d) n (whole to))
    (none-cut d to n (omega (arith, few)) wide)
    ∙ (row-cut d to n d.w kept
    ∙ ap (row_run (record { y = n; x = d.w })) nothing)))

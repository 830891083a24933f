-- How many cells an entry touches, beside the places that it lists and the steps that it takes.
use Rattle.std.proofs.Common.{◌≡◌, ◌+◌, ◌*◌, ◌≤◌, Bool, true, false, not, ◌&&◌, ◌||◌, List, [], ◌∷◌, length, refl, arith, ap, sym, ◌∙◌, subst, inl, inr}
use Rattle.std.proofs.Math.Nat.{mul-le-mul_left, mul-le-mul_right}
use Rattle.std.specs.Prelude.{All, Option, Some, filter}
use Rattle.std.specs.List.{AllByRecursion, IsDistinct}
use Rattle.std.proofs.lemmas.Bool.{both_ways, or_cases}
use Rattle.std.proofs.lemmas.List.Elements.{All-nil, recursion_from_All}
use Rattle.std.proofs.lemmas.List.Folds.{list_any-append}
use Rattle.std.proofs.lemmas.Map.Made.{length-le_from_is_member}
use Rattle.orca_base.specs.declared.area.Area.{Area}
use Rattle.orca_base.specs.declared.command.Entry.{Entry}
use Rattle.orca_base.specs.declared.command.Entry.TheVariants.{Fill, Put, Move, Resize, Reset, Frame, Hush}
use Rattle.orca_base.specs.declared.limits.TheConstants.{MAX_COLUMNS, MAX_TOUCHED}
use Rattle.orca_base.specs.declared.now.Now.{Now}
use Rattle.orca_base.specs.declared.place.Place.{Place}
use Rattle.orca_base.specs.Areas.{IsArea, size_of}
use Rattle.orca_base.specs.Edits.{is_in_area}
use Rattle.orca_base.specs.Grids.{Size, Sheet, IsInside, IsSize, cells_of, is_place, place_in}
use Rattle.orca_base.proofs.PlaceFacts.{is_place-same}
use Rattle.orca_board.specs.Blocks.{image, list_each, places_in, places_outside, put_places, shift_places}
use Rattle.orca_board.specs.Laws.{AreAllListed, CutLaw, FillLaw, PutLaw, ShiftLaw}
use Rattle.orca_board.specs.Sizes.{cut_places, whole}
use Rattle.orca_board.proofs.BlockPlaces.{inside-places_in, test-between, is_listed-places_in, is_listed-places_outside, length-places_in}
use Rattle.orca_op.specs.Deeds.{Deed, Mark, Write, Set, Emit}
use Rattle.orca_op.specs.Slate.{is_listed, list_after, list_after_all, list_with}
use Rattle.orca_op.specs.Scan.{places, scan, scan_deeds, written_places}
use Rattle.orca_op.proofs.SlateFacts.{All-list_with, IsDistinct-list_with, IsEquivalence-is_place}
use Rattle.orca_op.proofs.VisitFacts.{dims_after_places}
use Rattle.orca_op.specs.Rules.{rule}
use Rattle.orca_edit.specs.Editing.{FitsIn, IsGridEdit, steps_of}
use Rattle.orca_edit.specs.Pieces.{Piece, apply, next_frame}
use Rattle.orca_edit.specs.Prices.{price, touched}
use Rattle.orca_edit.specs.Pricing.{KeepsSize, ListsPlaces, listed_by}

-- ---- places of which none stands twice

-- in a grid they are no more than its cells
record AreFew (d : Size) (listed : List Place) : Type 0 where
  once : IsDistinct is_place listed
  inside : All (IsInside d) listed

few-none : (d : Size) → AreFew d []
unfolding IsDistinct
few-none d = record { once = tt; inside = All-nil (IsInside d) }

few-with : (d : Size) (listed : List Place) (at : Option Place) → AreFew d listed
    → AreFew d (list_with d listed at)
few-with d listed at few = record {
  once = IsDistinct-list_with d listed at few.once;
  inside = All-list_with d listed at few.inside;
}

few-each : (d : Size) (listed more : List Place) → AreFew d listed
    → AreFew d (list_each d listed more)
few-each d listed [] few = few
few-each d listed (at ∷ more) few =
    few-each d (list_with d listed (Some at)) more (few-with d listed (Some at) few)

few-listed : (d : Size) (listed : List Place) → AreAllListed d listed → AreFew d listed
few-listed d listed all = subst (AreFew d) all (few-each d [] listed (few-none d))

few-deeds : (d : Size) (listed : List Place) (deeds : List Deed) → AreFew d listed
    → AreFew d (list_after_all d d listed deeds)
unfolding list_after
few-deeds d listed [] few = few
few-deeds d listed (Mark at marks ∷ deeds) few = few-deeds d listed deeds few
few-deeds d listed (Write at glyph ∷ deeds) few =
    few-deeds d (list_with d listed (place_in d at)) deeds (few-with d listed (place_in d at) few)
few-deeds d listed (Set variable glyph ∷ deeds) few = few-deeds d listed deeds few
few-deeds d listed (Emit event ∷ deeds) few = few-deeds d listed deeds few

few-written : (g : Sheet) (now : Now) → AreFew g.dims (written_places g now)
unfolding written_places
few-written g now = few-deeds g.dims [] (scan_deeds (places g) g now) (few-none g.dims)

-- what holds of all of them holds of each
of-listed : (P : Place → Type 0) (listed : List Place) (at : Place) → AllByRecursion P listed
    → is_listed listed at ≡ true → P at
of-listed P [] at all is = absurd (both_ways _ refl is)
of-listed P (p ∷ listed) at all is = elim (or_cases _ _ is) [
  | inl here ↦ subst P (sym (is_place-same at p here)) all.0
  | inr later ↦ of-listed P listed at all.1 later
]

-- a place of a grid is one of all its places
is_listed-whole : (d : Size) (at : Place) → IsInside d at
    → is_listed (places_in (whole d)) at ≡ true
is_listed-whole d at inside =
    is_listed-places_in (whole d) at
    ∙ test-between (whole d) at (record {
      top = omega arith;
      bottom = omega (arith, inside.row);
      left = omega arith;
      right = omega (arith, inside.column);
    })

few-cells : (d : Size) (listed : List Place) → AreFew d listed → length listed ≤ cells_of d
few-cells d listed few =
    omega (
      arith,
      length-le_from_is_member IsEquivalence-is_place listed (places_in (whole d)) few.once
          (λ at is. is_listed-whole d at
          (of-listed (IsInside d) listed at (recursion_from_All (IsInside d) listed few.inside)
          is)),
      length-places_in (whole d),
    )

-- ---- moves

-- a place of the area is in its image or outside it
in-shift : (d : Size) (area : Area) (to at : Place) → is_listed (places_in area) at ≡ true
    → is_listed (shift_places d area to) at ≡ true
in-shift d area to at is =
    let target : Area = image d to (size_of area) in
    list_any-append (is_place at) (places_outside area target) (places_in target)
    ∙ (rw (
      is_listed-places_outside area target at,
      is_listed-places_in target at,
      sym (is_listed-places_in area at) ∙ is,
    ) (either (is_in_area target at)))
  where
    either : (b : Bool) → (not b && true) || b ≡ true
    either true = refl
    either false = refl

area-shifted : (d : Size) (area : Area) (to : Place) → FillLaw → IsArea d area
    → area.h * area.w ≤ length (shift_places d area to)
area-shifted d area to law is =
    omega (
      arith,
      length-le_from_is_member IsEquivalence-is_place (places_in area) (shift_places d area to)
          (few-listed d (places_in area) (law d area is).0).once
          (λ at here. in-shift d area to at here),
      length-places_in area,
    )

-- ---- edits

pub pays_twice : FillLaw → CutLaw → (p : Piece) (entry : Entry) → IsGridEdit entry
    → FitsIn p.sheet.dims entry → 2 * steps_of p.sheet.dims entry + 1 ≤ price p entry
pays_twice fill cut p (Fill area glyph) edit fits = omega arith
pays_twice fill cut p (Put at block) edit fits = omega arith
pays_twice fill cut p (Move area to) edit fits =
    omega (arith, area-shifted p.sheet.dims area to fill fits.0)
pays_twice fill cut p (Resize dims) edit fits = omega (arith, (cut p.sheet.dims dims).1)
pays_twice fill cut p Reset edit fits = elim edit [ ]
pays_twice fill cut p Frame edit fits = elim edit [ ]
pays_twice fill cut p Hush edit fits = elim edit [ ]

pub lists_places : FillLaw → PutLaw → ShiftLaw → CutLaw → ListsPlaces
lists_places fill put shift cut p (Fill area glyph) edit fits = (fill p.sheet.dims area fits).0
lists_places fill put shift cut p (Put at block) edit fits = put p.sheet.dims at block.dims fits
lists_places fill put shift cut p (Move area to) edit fits =
    shift p.sheet.dims area to fits.0 fits.1
lists_places fill put shift cut p (Resize dims) edit fits = (cut p.sheet.dims dims).0
lists_places fill put shift cut p Reset edit fits = elim edit [ ]
lists_places fill put shift cut p Frame edit fits = elim edit [ ]
lists_places fill put shift cut p Hush edit fits = elim edit [ ]

pub touches_listed : (p : Piece) (entry : Entry) → KeepsSize entry
    → length (listed_by p entry) ≡ touched p entry
touches_listed p (Fill area glyph) keeps = length-places_in area
touches_listed p (Put at block) keeps = refl
touches_listed p (Move area to) keeps = refl
touches_listed p (Resize dims) keeps = elim keeps [ ]
touches_listed p Reset keeps = refl
touches_listed p Frame keeps = refl
touches_listed p Hush keeps = refl

-- no place is cut off where the size stays
cut-none : (d : Size) (listed : List Place) → AllByRecursion (IsInside d) listed
    → filter (λ at. not (is_in_area (whole d) at)) listed ≡ []
cut-none d [] inside = refl
cut-none d (at ∷ listed) inside =
    let here : is_in_area (whole d) at ≡ true =
    sym (is_listed-places_in (whole d) at) ∙ is_listed-whole d at inside.0 in
    rw here (cut-none d listed inside.1)

cut-same : (d : Size) → length (cut_places d d) ≡ 0
cut-same d =
    ap length (cut-none d (places_in (whole d))
    (recursion_from_All (IsInside d) (places_in (whole d))
    (inside-places_in d (whole d) (omega arith) (omega arith))))

-- so an entry that changes no size has touched the places that it lists
same-size : (p : Piece) (entry : Entry) → KeepsSize entry
    → (apply p entry).piece.sheet.dims ≡ p.sheet.dims
    → length (listed_by p entry)
    + length (cut_places (apply p entry).piece.sheet.dims p.sheet.dims)
    ≤ touched p entry
same-size p entry keeps same =
    omega (
      arith,
      touches_listed p entry keeps,
      ap (λ (d : Size). length (cut_places d p.sheet.dims)) same,
      cut-same p.sheet.dims,
    )

pub touches_both : CutLaw → (p : Piece) (entry : Entry)
    → length (listed_by p entry)
    + length (cut_places (apply p entry).piece.sheet.dims p.sheet.dims)
    ≤ touched p entry
unfolding apply scan
touches_both cut p (Fill area glyph) = same-size p (Fill area glyph) tt refl
touches_both cut p (Put at block) = same-size p (Put at block) tt refl
touches_both cut p (Move area to) = same-size p (Move area to) tt refl
touches_both cut p (Resize dims) =
    omega (arith, (cut p.sheet.dims dims).1, (cut dims p.sheet.dims).1)
touches_both cut p Reset = same-size p Reset tt refl
touches_both cut p Frame =
    same-size p Frame tt (dims_after_places rule (places p.sheet) p.sheet (next_frame p))
touches_both cut p Hush = same-size p Hush tt refl

-- ---- the most

-- a grid has no more cells than the largest
most-cells : (d : Size) → IsSize d → 2 * cells_of d ≤ MAX_TOUCHED
most-cells d size =
    let rows = mul-le-mul_left d.h size.few_columns in
    let columns = mul-le-mul_right MAX_COLUMNS size.few_rows in
    omega (arith, rows, columns)

pub touches_few : FillLaw → PutLaw → ShiftLaw → (p : Piece) (entry : Entry)
    → IsSize p.sheet.dims → FitsIn p.sheet.dims entry → touched p entry ≤ MAX_TOUCHED
touches_few fill put shift p (Fill area glyph) size fits =
    let d : Size = p.sheet.dims in
    omega (
      arith,
      few-cells d (places_in area) (few-listed d (places_in area) (fill d area fits).0),
      length-places_in area,
      most-cells d size,
    )
touches_few fill put shift p (Put at block) size fits =
    let d : Size = p.sheet.dims in
    omega (
      arith,
      few-cells d (put_places d at block.dims)
          (few-listed d (put_places d at block.dims) (put d at block.dims fits)),
      most-cells d size,
    )
touches_few fill put shift p (Move area to) size fits =
    let d : Size = p.sheet.dims in
    omega (
      arith,
      few-cells d (shift_places d area to)
          (few-listed d (shift_places d area to) (shift d area to fits.0 fits.1)),
      most-cells d size,
    )
touches_few fill put shift p (Resize dims) size fits =
    omega (arith, most-cells p.sheet.dims size, most-cells dims fits)
touches_few fill put shift p Reset size fits = omega arith
touches_few fill put shift p Frame size fits =
    omega (
      arith,
      few-cells p.sheet.dims (written_places p.sheet (next_frame p))
          (few-written p.sheet (next_frame p)),
      most-cells p.sheet.dims size,
    )
touches_few fill put shift p Hush size fits = omega arith

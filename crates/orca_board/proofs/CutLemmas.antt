-- The places that another size cuts off: what the slate holds and lists once they are emptied.
use Rattle.std.proofs.Common.{◌≡◌, ℕ, Bool, true, false, not, ◌&&◌, List, [], ◌∷◌, refl, arith, ap, sym, ◌∙◌, inl, inr, zero-add}
use Rattle.std.specs.Prelude.{filter, nat_lt, if◌then◌else◌, Some}
use Rattle.std.proofs.lemmas.Bool.{both_ways, cases_Bool, le-leb}
use Rattle.std.proofs.Math.Bool.{and-true}
use Rattle.orca_base.specs.declared.place.Place.{Place}
use Rattle.orca_base.specs.Edits.{is_in_area, sheet_after_resize}
use Rattle.orca_base.specs.Glyphs.{empty}
use Rattle.orca_base.specs.Grids.{Size, IsSize, IsInside, glyph_at as glyph_on, is_inside, sheet_by}
use Rattle.orca_base.proofs.PlaceFacts.{inside-is_inside, is_inside-inside}
use Rattle.orca_base.proofs.SheetFacts.{glyph_at-sheet_by, same-by_place}
use Rattle.orca_op.specs.Slate.{Slate, IsSlate, slate_after_all, is_listed, list_with}
use Rattle.orca_op.specs.State.{state_glyph, sheet_of}
use Rattle.orca_op.proofs.SlateFacts.{absent-list_with}
use Rattle.orca_board.specs.Blocks.{slate_after_edit, list_each, write_each}
use Rattle.orca_board.specs.Sizes.{cut_places, whole}
use Rattle.orca_board.proofs.BlockLemmas.{after_writes}
use Rattle.orca_board.proofs.BlockPlaces.{inside-places_outside, is_listed-places_outside}

-- the places of a whole grid are those that lie in it
in-whole : (d : Size) (at : Place) → is_in_area (whole d) at ≡ is_inside d at
in-whole d at =
    rw (zero-add d.h, zero-add d.w, le-leb 0 at.y (omega arith), le-leb 0 at.x (omega arith))
    (ap (λ (b : Bool). b && nat_lt at.x d.w) (and-true (nat_lt at.y d.h)))

-- a place of the grid is cut off where it doesn't lie in the other size
pub listed-cut : (d to : Size) (at : Place) → IsInside d at
    → is_listed (cut_places d to) at ≡ not (is_inside to at)
listed-cut d to at inside =
    is_listed-places_outside (whole d) (whole to) at
    ∙ (rw (in-whole to at, in-whole d at, is_inside-inside d at inside)
    (and-true (not (is_inside to at))))

-- what a place holds once those that are cut off are empty
abbrev pub left_glyph : Slate → Size → Place → ℕ
left_glyph d to at = if is_inside to at then state_glyph d.scan at else empty

-- the slate then
abbrev pub cut_slate : Slate → Size → Slate
cut_slate d to =
    slate_after_edit d (sheet_by d.scan.dims (left_glyph d to)) (cut_places d.scan.dims to)

cut-away : (d : Slate) (to : Size) → IsSlate d
    → slate_after_all d (write_each (λ at. empty) (cut_places d.scan.dims to)) ≡ cut_slate d to
cut-away d to slate =
    after_writes d (λ at. empty) (cut_places d.scan.dims to) (left_glyph d to) slate.state.sheet.size
    slate.state.sheet.whole
    (inside-places_outside d.scan.dims (whole d.scan.dims) (whole to) (omega arith) (omega arith))
    (λ at inside. rw (listed-cut d.scan.dims to at inside)
    (swap (is_inside to at) (state_glyph d.scan at)))
  where
    swap : (b : Bool) (g : ℕ) → (if not b then empty else g) ≡ (if b then g else empty)
    swap true g = refl
    swap false g = refl

-- a place that is cut off is empty then
cut-empty : (d : Slate) (to : Size) (at : Place) → IsInside d.scan.dims at
    → is_inside to at ≡ false → glyph_on (sheet_by d.scan.dims (left_glyph d to)) at ≡ empty
cut-empty d to at inside out =
    glyph_at-sheet_by d.scan.dims (left_glyph d to) at inside ∙ (rw out refl)

-- what isn't listed in the end was neither listed before nor among the places
absent-each : (began : Size) (listed places : List Place) (q : Place) → IsInside began q
    → is_listed (list_each began listed places) q ≡ false
    → (is_listed listed q ≡ false) × (is_listed places q ≡ false)
absent-each began listed [] q inside absent = (absent, refl)
absent-each began listed (p ∷ places) q inside absent =
    let rest = absent-each began (list_with began listed (Some p)) places q inside absent in
    let one = absent-list_with began listed p q inside rest.0 in
    (one.0, rw (one.1, rest.1) refl)

-- a place of the last `begin` that lies in no grid of the other size is listed then
cut-listed : (d : Slate) (to : Size) (at : Place) → IsSlate d → IsInside d.began.dims at
    → is_inside to at ≡ false
    → is_listed (list_each d.began.dims d.listed (cut_places d.scan.dims to)) at ≡ true
cut-listed d to at slate inside out =
    elim (cases_Bool (is_listed (list_each d.began.dims d.listed (cut_places d.scan.dims to)) at)) [
      | inl is ↦ is
      | inr absent ↦
          let cut = cut_places d.scan.dims to in
          let before = absent-each d.began.dims d.listed cut at inside absent in
          let there = (slate.kept at inside before.0).0 in
          absurd (both_ways _ before.1 (listed-cut d.scan.dims to at there ∙ (rw out refl)))
    ]

-- what is known of a slate once those places are empty
pub record IsCut (d : Slate) (to : Size) (after : Slate) : Type 0 where
  pub is : after ≡ cut_slate d to
  pub emptied : (at : Place) → IsInside after.scan.dims at → is_inside to at ≡ false
      → state_glyph after.scan at ≡ empty
  pub listed : (at : Place) → IsInside after.began.dims at → is_inside to at ≡ false
      → is_listed after.listed at ≡ true

pub cut-off : (d now after : Slate) (to : Size) → IsSlate d → d ≡ now
    → after ≡ slate_after_all now (write_each (λ at. empty) (cut_places d.scan.dims to))
    → IsCut d to after
cut-off d now after to slate view written =
    let is : after ≡ cut_slate d to = written ∙ rw (← view) (cut-away d to slate) in
    record {
      is = is;
      emptied = rw is (cut-empty d to);
      listed = rw is (λ at inside out. cut-listed d to at slate inside out);
    }

-- the other size of a grid from which it cuts nothing but empty places is that of the grid before
pub resize-cut : (d : Slate) (to : Size) → IsSize to
    → sheet_after_resize (sheet_by d.scan.dims (left_glyph d to)) to
    ≡ sheet_after_resize (sheet_of d.scan) to
resize-cut d to size =
    ap (λ (cells : List ℕ). record { dims = to; cells = cells })
    (same-by_place to (λ at. if is_inside d.scan.dims at then glyph_on
    (sheet_by d.scan.dims (left_glyph d to)) at else empty)
    (λ at. if is_inside d.scan.dims at then state_glyph d.scan at else empty) 0 size
    (λ at inside. each at inside (is_inside d.scan.dims at) refl))
  where
    each : (at : Place) → IsInside to at → (b : Bool) → is_inside d.scan.dims at ≡ b
        → (if b then glyph_on (sheet_by d.scan.dims (left_glyph d to)) at else empty)
        ≡ (if b then state_glyph d.scan at else empty)
    each at inside true here =
        glyph_at-sheet_by d.scan.dims (left_glyph d to) at (inside-is_inside d.scan.dims at here)
        ∙ (rw (is_inside-inside to at inside) refl)
    each at inside false here = refl

-- a place outside the grid of the last `begin` isn't listed
pub cut-unlisted : (began : Size) (listed places : List Place)
    → list_each began listed (filter (λ at. not (is_in_area (whole began) at)) places) ≡ listed
cut-unlisted began listed [] = refl
cut-unlisted began listed (p ∷ places) =
    step (is_in_area (whole began) p) refl (cut-unlisted began listed places)
  where
    step : (b : Bool) → is_in_area (whole began) p ≡ b
        → list_each began listed (filter (λ at. not (is_in_area (whole began) at)) places) ≡ listed
        → list_each began listed (filter (λ at. not (is_in_area (whole began) at)) (p ∷ places))
        ≡ listed
    step true is rest = rw is rest
    step false is rest =
        let out : is_inside began p ≡ false = sym (in-whole began p) ∙ is in
        rw (is, out) rest

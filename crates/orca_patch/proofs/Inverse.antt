-- The patch of what a slate lists gives back the grid of the last `begin`.
use Rattle.std.proofs.Common.{◌≡◌, ℕ, List, [], ◌∷◌, refl, ap, sym, ◌∙◌, inl, inr, map}
use Rattle.std.specs.Prelude.{All, if◌then◌else◌}
use Rattle.std.specs.List.{IsDistinct}
use Rattle.std.proofs.lemmas.Bool.{both_ways, cases_Bool}
use Rattle.orca_base.specs.declared.change.Change.{Change}
use Rattle.orca_base.specs.declared.place.Place.{Place}
use Rattle.orca_base.specs.Grids.{Sheet, IsSheet, IsInside, glyph_at as glyph_on, is_place}
use Rattle.orca_base.proofs.PlaceFacts.{is_inside-inside, is_place-same}
use Rattle.orca_base.proofs.SheetFacts.{sheet-same}
use Rattle.orca_op.specs.Slate.{Slate, IsSlate, changes_of, is_listed}
use Rattle.orca_op.specs.State.{state_glyph, sheet_of}
use Rattle.orca_board.specs.Listing.{places_of}
use Rattle.orca_patch.specs.Patches.{CoversCut, before_of, no_change, old_glyph, sheet_before}

-- the change of a place, whose old glyph a function gives
abbrev change_by : (Place → ℕ) → Place → Change
change_by glyph at = record { at = at; old = glyph at }

pub places-map : (glyph : Place → ℕ) (places : List Place)
    → places_of (map (change_by glyph) places) ≡ places
places-map glyph [] = refl
places-map glyph (p ∷ places) = ap (λ (rest : List Place). p ∷ rest) (places-map glyph places)

-- the old glyph of a listed place is what the function gives it
old_glyph-map : (glyph : Place → ℕ) (places : List Place) (at : Place) (other : ℕ)
    → old_glyph (map (change_by glyph) places) at other
    ≡ (if is_listed places at then glyph at else other)
old_glyph-map glyph [] at other = refl
old_glyph-map glyph (p ∷ places) at other = elim (cases_Bool (is_place at p)) [
  | inl same ↦ rw same (ap glyph (sym (is_place-same at p same)))
  | inr apart ↦ rw apart (old_glyph-map glyph places at other)
]

-- each place of the last `begin` holds its glyph of then
back : (d : Slate) (at : Place) → IsSlate d → IsInside d.began.dims at
    → glyph_on d.began at ≡ old_glyph (changes_of d) at (state_glyph d.scan at)
back d at slate inside =
    sym (old_glyph-map (glyph_on d.began) d.listed at (state_glyph d.scan at)
    ∙ elim (cases_Bool (is_listed d.listed at)) [
      | inl present ↦ rw present refl
      | inr absent ↦ rw absent (slate.kept at inside absent).1
    ])

pub sheet-back : (d : Slate) (tick : ℕ) → IsSlate d
    → sheet_before (before_of d tick) (sheet_of d.scan) ≡ d.began
sheet-back d tick slate =
    sym (sheet-same d.began (λ at. old_glyph (changes_of d) at (state_glyph d.scan at))
    slate.began.size slate.began.whole (λ at inside. back d at slate inside))

-- a place of the last `begin` that lies outside the grid now is listed
pub covers-cut : (d : Slate) (tick : ℕ) → IsSlate d → CoversCut (before_of d tick) d.scan.dims
covers-cut d tick slate at inside out =
    ap (λ (places : List Place). is_listed places at) (places-map (glyph_on d.began) d.listed)
    ∙ elim (cases_Bool (is_listed d.listed at)) [
      | inl present ↦ present
      | inr absent ↦
          let there = (slate.kept at inside absent).0 in
          absurd (both_ways _ out (is_inside-inside d.scan.dims at there))
    ]

-- what a slate lists makes a patch
pub inside-listed : (d : Slate) → IsSlate d → All (IsInside d.began.dims) (places_of (changes_of d))
inside-listed d slate = rw (places-map (glyph_on d.began) d.listed) slate.inside

pub once-listed : (d : Slate) → IsSlate d → IsDistinct is_place (places_of (changes_of d))
once-listed d slate = rw (places-map (glyph_on d.began) d.listed) slate.once

-- a patch of no change
pub sheet-no_change : (g : Sheet) (tick : ℕ) → IsSheet g
    → sheet_before (no_change g.dims tick) g ≡ g
sheet-no_change g tick sheet =
    sym (sheet-same g (glyph_on g) sheet.size sheet.whole (λ at inside. refl))

pub covers-no_change : (g : Sheet) (tick : ℕ) → CoversCut (no_change g.dims tick) g.dims
covers-no_change g tick at inside out =
    absurd (both_ways _ out (is_inside-inside g.dims at inside))

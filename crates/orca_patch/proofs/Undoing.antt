-- The slate on which a patch was undone.
use Rattle.std.proofs.Common.{◌≡◌, ℕ, ◌+◌, ◌<◌, ◌≤◌, Bool, true, false, List, [], ◌∷◌, ◌++◌, length, get_or, take, refl, arith, ap, sym, ◌∙◌, subst, inl, inr, map}
use Rattle.std.specs.Prelude.{All, if◌then◌else◌}
use Rattle.std.specs.List.{AllByRecursion, IsDistinct}
use Rattle.std.proofs.lemmas.Bool.{both_ways, cases_Bool, or_parts}
use Rattle.std.proofs.lemmas.List.{length-map, map_more, take_all}
use Rattle.orca_base.specs.declared.change.Change.{Change}
use Rattle.orca_base.specs.declared.place.Place.{Place}
use Rattle.orca_base.specs.declared.place.Spot.{Spot}
use Rattle.orca_base.specs.Edits.{sheet_after_resize}
use Rattle.orca_base.specs.Glyphs.{empty}
use Rattle.orca_base.specs.Grids.{Size, Sheet, IsSize, IsInside, cells_of, glyph_at as glyph_on, here, is_inside, is_place, sheet_by}
use Rattle.orca_base.proofs.PlaceFacts.{is_place-refl}
use Rattle.orca_base.proofs.SheetFacts.{glyph_at-sheet_by, length-by_place}
use Rattle.orca_op.specs.Deeds.{Deed, Write}
use Rattle.orca_op.specs.Slate.{Slate, slate_after, slate_after_all, is_listed, residue}
use Rattle.orca_op.proofs.LawFacts.{slate_after_all-append}
use Rattle.orca_op.specs.State.{State, blank_marks, sheet_of}
use Rattle.orca_op.proofs.SlateFacts.{IsEquivalence-is_place}
use Rattle.orca_board.specs.Blocks.{slate_after_edit, list_each, write_each}
use Rattle.orca_board.specs.Listing.{places_of}
use Rattle.orca_board.specs.Sizes.{cut_places, slate_after_resize, is_size, with_sheet}
use Rattle.orca_board.proofs.BlockLemmas.{after_writes}
use Rattle.orca_board.proofs.ResidueLemmas.{count-with_sheet, length-list_each}
use Rattle.orca_patch.specs.Patches.{Before, IsPatch, CoversCut, slate_before, old_glyph, sheet_before}

-- ---- the listed places are written

-- the deeds that write the old glyphs
abbrev pub writes_of : List Change → List Deed
writes_of changes = map (λ change. Write (here change.at) change.old) changes

-- one more is written
pub step : (d e f : Slate) (changes : List Change) (n : ℕ) (change : Change) (spot : Spot)
    → n < length changes → change ≡ get_or changes n change
    → e ≡ slate_after_all d (writes_of (take n changes)) → spot ≡ here change.at
    → f ≡ slate_after e (Write spot change.old)
    → f ≡ slate_after_all d (writes_of (take (n + 1) changes))
step d e f changes n change spot below item before is deed =
    let write : Change → Deed = λ c. Write (here c.at) c.old in
    (rw (before, is) at deed)
    ∙ sym (ap (slate_after_all d) (map_more write changes n change below
    ∙ ap (λ (c : Change). writes_of (take n changes) ++ write c ∷ []) (sym item))
    ∙ slate_after_all-append d (writes_of (take n changes)) (write change ∷ []))

-- a change is found where it was, once another place stands before it
found : (change : Change) (changes some : List Change) (other : ℕ)
    → AllByRecursion (λ p. is_place change.at p ≡ false) (places_of some)
    → AllByRecursion (λ c. c.old ≡ old_glyph changes c.at other) some
    → AllByRecursion (λ c. c.old ≡ old_glyph (change ∷ changes) c.at other) some
found change changes [] other apart all = tt
found change changes (c ∷ some) other apart all =
    let away : is_place c.at change.at ≡ false =
    IsEquivalence-is_place.symm c.at change.at ∙ apart.0 in
    (rw away all.0, found change changes some other apart.1 all.1)

-- each change is found, where no place stands twice
finds : (changes : List Change) (other : ℕ) → IsDistinct is_place (places_of changes)
    → AllByRecursion (λ c. c.old ≡ old_glyph changes c.at other) changes
unfolding IsDistinct
finds [] other once = tt
finds (c ∷ changes) other once = (
  rw (is_place-refl c.at) refl,
  found c changes changes other once.0
      (finds changes other once.1),
)

writes-each : (glyph : Place → ℕ) (changes : List Change)
    → AllByRecursion (λ c. c.old ≡ glyph c.at) changes
    → writes_of changes ≡ write_each glyph (places_of changes)
writes-each glyph [] all = refl
writes-each glyph (c ∷ changes) all =
    ap (λ (old : ℕ). Write (here c.at) old ∷ writes_of changes) all.0
    ∙ ap (λ (rest : List Deed). Write (here c.at) (glyph c.at) ∷ rest)
    (writes-each glyph changes all.1)

-- what is found for a listed place, whatever else stands there
old_glyph-listed : (changes : List Change) (at : Place) (x y : ℕ)
    → is_listed (places_of changes) at ≡ true → old_glyph changes at x ≡ old_glyph changes at y
old_glyph-listed [] at x y is = absurd (both_ways _ refl is)
old_glyph-listed (c ∷ changes) at x y is = elim (cases_Bool (is_place at c.at)) [
  | inl same ↦ rw same refl
  | inr apart ↦ rw apart (old_glyph-listed changes at x y (rw apart at is))
]

old_glyph-absent : (changes : List Change) (at : Place) (x : ℕ)
    → is_listed (places_of changes) at ≡ false → old_glyph changes at x ≡ x
old_glyph-absent [] at x is = refl
old_glyph-absent (c ∷ changes) at x is =
    let parts = or_parts (is_place at c.at) (is_listed (places_of changes) at) is in
    rw parts.0 (old_glyph-absent changes at x parts.1)

-- what a place holds then
holds : (b : Before) (g : Sheet) (at : Place) → CoversCut b g.dims → IsInside b.dims at
    → (if is_listed (places_of b.changes) at then old_glyph b.changes at 0
    else glyph_on (sheet_after_resize g b.dims) at)
    ≡ old_glyph b.changes at (glyph_on g at)
holds b g at covers inside = elim (cases_Bool (is_listed (places_of b.changes) at)) [
  | inl present ↦ rw present (old_glyph-listed b.changes at 0 (glyph_on g at) present)
  | inr absent ↦
      let there : is_inside g.dims at ≡ true = elim (cases_Bool (is_inside g.dims at)) [
        | inl is ↦ is
        | inr out ↦ absurd (both_ways _ absent (covers at inside out))
      ] in
      rw absent
      (glyph_at-sheet_by b.dims (λ p. if is_inside g.dims p then glyph_on g p else empty) at inside
      ∙ (rw there (sym (old_glyph-absent b.changes at (glyph_on g at) absent))))
]

-- the writes leave the grid before, where they follow the change of size
written : (b : Before) (e : Slate) (g : Sheet) → IsPatch b → CoversCut b g.dims
    → sheet_of e.scan ≡ sheet_after_resize g b.dims
    → slate_after_all e (writes_of b.changes)
    ≡ slate_after_edit e (sheet_before b g) (places_of b.changes)
written b e g patch covers is =
    let size : e.scan.dims ≡ b.dims = ap (λ (s : Sheet). s.dims) is in
    let glyph : Place → ℕ = λ at. old_glyph b.changes at 0 in
    ap (slate_after_all e) (writes-each glyph b.changes (finds b.changes 0 patch.once))
    ∙ (after_writes e glyph (places_of b.changes)
    (λ at. old_glyph b.changes at (glyph_on g at)) (subst IsSize (sym size) patch.size)
    (subst (λ (s : Sheet). length s.cells ≡ cells_of s.dims) (sym is)
    (length-by_place b.dims (λ p. if is_inside g.dims p then glyph_on g p else empty)))
    (subst (λ (d : Size). All (IsInside d) (places_of b.changes)) (sym size) patch.inside)
    (λ at inside.
    ap (λ (s : Sheet). if is_listed (places_of b.changes) at then glyph at else glyph_on s at) is
    ∙ holds b g at covers (subst (λ (d : Size). IsInside d at) size inside))
    ∙ ap (λ (d : Size). slate_after_edit e (sheet_by d (λ at. old_glyph b.changes at
    (glyph_on g at))) (places_of b.changes)) size)

-- ---- the change of size before

-- the state with another grid, by whether the size stays
abbrev with_either : State → Sheet → Bool → State
with_either s g true = record s { dims = g.dims; cells = g.cells }
with_either s g false =
    record s { dims = g.dims; cells = g.cells; marks = blank_marks g.dims; events = [] }

either : (s : State) (g : Sheet) → with_sheet s g ≡ with_either s g (is_size g.dims s.dims)
either s g = by (is_size g.dims s.dims)
  where
    by : (b : Bool)
        → (if b then with_either s g true else with_either s g false) ≡ with_either s g b
    by true = refl
    by false = refl

sheet-with_sheet : (s : State) (g : Sheet) → sheet_of (with_sheet s g) ≡ g
sheet-with_sheet s g = rw either (by (is_size g.dims s.dims))
  where
    by : (b : Bool) → sheet_of (with_either s g b) ≡ g
    by true = refl
    by false = refl

-- the patch is undone
pub undone : (b : Before) (d e : Slate) (n : ℕ) → IsPatch b → CoversCut b d.scan.dims
    → e ≡ slate_after_all (slate_after_resize d b.dims) (writes_of (take n b.changes))
    → length b.changes ≤ n → e ≡ slate_before b d
undone b d e n patch covers is all =
    is ∙ (ap (λ (changes : List Change). slate_after_all (slate_after_resize d b.dims)
    (writes_of changes)) (take_all n b.changes all)
    ∙ written b (slate_after_resize d b.dims) (sheet_of d.scan) patch covers
    (sheet-with_sheet d.scan (sheet_after_resize (sheet_of d.scan) b.dims)))

-- the grid of that slate
pub sheet-slate_before : (b : Before) (d : Slate)
    → sheet_of (slate_before b d).scan ≡ sheet_before b (sheet_of d.scan)
sheet-slate_before b d =
    let size = ap (λ (s : Sheet). s.dims)
    (sheet-with_sheet d.scan (sheet_after_resize (sheet_of d.scan) b.dims)) in
    ap (λ (dims : Size). record { dims = dims; cells = (sheet_before b (sheet_of d.scan)).cells })
    size

-- ---- what is left to clear

pub residue-slate_before : (b : Before) (d : Slate)
    → residue (slate_before b d)
    ≤ residue d + length (cut_places d.scan.dims b.dims) + length b.changes
unfolding residue
residue-slate_before b d =
    omega (
      arith,
      count-with_sheet d.scan (sheet_after_resize (sheet_of d.scan) b.dims),
      length-list_each d.began.dims d.listed (cut_places d.scan.dims b.dims),
      length-list_each d.began.dims
          (list_each d.began.dims d.listed (cut_places d.scan.dims b.dims))
          (places_of b.changes),
      length-map b.changes (λ (c : Change). c.at),
    )

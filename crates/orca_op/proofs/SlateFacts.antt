-- What holds of every slate holds after a deed, and as a frame begins.
use Rattle.std.proofs.Common.{◌≡◌, ℕ, zero, suc, ◌+◌, ◌≤◌, Bool, true, false, not, ◌&&◌, List, [], ◌∷◌, ◌++◌, length, replicate, refl, arith, ap, sym, ◌∙◌, subst, inl, inr}
use Rattle.std.proofs.Math.ListN.{set}
use Rattle.std.specs.Prelude.{All, count_by, Option, Some, None, IfSome, if◌then◌else◌, slice_index}
use Rattle.std.specs.Cmp.{IsEquivalence}
use Rattle.std.specs.List.{IsDistinct}
use Rattle.std.proofs.lemmas.Bool.{both_ways, cases_Bool, false_from_ne_true, or_parts}
use Rattle.std.proofs.lemmas.List.{get_or-set_other}
use Rattle.std.proofs.lemmas.List.Elements.{All-nil, All-push}
use Rattle.std.proofs.lemmas.List.Folds.{list_any-append}
use Rattle.std.proofs.lemmas.Map.Keys.{IsDistinct-push}
use Rattle.orca_base.specs.declared.place.Place.{Place}
use Rattle.orca_base.specs.Grids.{Size, Sheet, IsSheet, IsInside, cells_of, glyph_at as glyph_on, index_of, is_inside, is_place, place_in}
use Rattle.orca_base.proofs.PlaceFacts.{is_place-same, is_place-refl, is_inside-inside, inside-is_inside, inside-place_in, index-injective}
use Rattle.orca_base.specs.MarkSet.{is_marked, no_marks}
use Rattle.orca_op.specs.State.{State, state_glyph}
use Rattle.orca_op.specs.Deeds.{Deed, Mark, Write, Set, Emit, after, cells_after}
use Rattle.orca_op.specs.Slate.{Slate, IsSlate, KeepsUnlisted, is_listed, list_with, list_after, slate_after, slate_after_all, slate_of_sheet, residue}
use Rattle.orca_op.specs.Laws.{Every, WritesGlyph, is_emit}
use Rattle.orca_op.proofs.LawFacts.{count_by-append}
use Rattle.orca_op.proofs.StateFacts.{IsState-after, IsState-fresh, dims_after, events_after}

-- ---- the test of equal places

is_place-flip : (a b : Place) → is_place a b ≡ true → is_place b a ≡ true
is_place-flip a b is =
    subst (λ (p : Place). is_place p a ≡ true) (is_place-same a b is) (is_place-refl a)

pub IsEquivalence-is_place : IsEquivalence is_place
IsEquivalence-is_place = record {
  refl = is_place-refl;
  symm = λ a b. elim (cases_Bool (is_place a b)) [
    | inl is ↦ is ∙ sym (is_place-flip a b is)
    | inr other ↦ other ∙ sym (false_from_ne_true _
        (λ is. both_ways _ other (is_place-flip b a is)))
  ];
  congr = λ a b c is. ap (λ (p : Place). is_place p c) (is_place-same a b is);
}

-- ---- a place more in the list

distinct_if : (listed : List Place) (at : Place) (inside found : Bool) → is_listed listed at ≡ found
    → IsDistinct is_place listed
    → IsDistinct is_place (if inside && not found then listed ++ at ∷ [] else listed)
distinct_if listed at true false absent distinct =
    IsDistinct-push IsEquivalence-is_place listed at distinct absent
distinct_if listed at true true present distinct = distinct
distinct_if listed at false found test distinct = distinct

pub IsDistinct-list_with : (d : Size) (listed : List Place) (at : Option Place)
    → IsDistinct is_place listed → IsDistinct is_place (list_with d listed at)
IsDistinct-list_with d listed None distinct = distinct
IsDistinct-list_with d listed (Some at) distinct =
    distinct_if listed at (is_inside d at) (is_listed listed at) refl distinct

inside_if : (d : Size) (listed : List Place) (at : Place) (inside found : Bool)
    → (inside ≡ true → IsInside d at) → All (IsInside d) listed
    → All (IsInside d) (if inside && not found then listed ++ at ∷ [] else listed)
inside_if d listed at true false in_grid all = All-push (IsInside d) listed at all (in_grid refl)
inside_if d listed at true true in_grid all = all
inside_if d listed at false found in_grid all = all

pub All-list_with : (d : Size) (listed : List Place) (at : Option Place) → All (IsInside d) listed
    → All (IsInside d) (list_with d listed at)
All-list_with d listed None all = all
All-list_with d listed (Some at) all =
    inside_if d listed at (is_inside d at) (is_listed listed at) (inside-is_inside d at) all

not_before : (listed : List Place) (at q : Place) → is_listed (listed ++ at ∷ []) q ≡ false
    → (is_listed listed q ≡ false) × (is_place q at ≡ false)
not_before listed at q absent =
    let parts = or_parts _ _ (sym (list_any-append (is_place q) listed (at ∷ [])) ∙ absent) in
    (parts.0, (or_parts _ _ parts.1).0)

-- a place that isn't listed now wasn't before, and isn't the one that is written
other_if : (listed : List Place) (at q : Place) (inside found : Bool)
    → (is_place q at ≡ true → inside ≡ true) → is_listed listed at ≡ found
    → is_listed (if inside && not found then listed ++ at ∷ [] else listed) q ≡ false
    → (is_listed listed q ≡ false) × (is_place q at ≡ false)
other_if listed at q true false in_grid present absent = not_before listed at q absent
other_if listed at q true true in_grid present absent = (
  absent,
  false_from_ne_true _ (λ is. both_ways _ absent
      (subst (λ (p : Place). is_listed listed p ≡ true) (sym (is_place-same q at is)) present)),
)
other_if listed at q false found in_grid present absent =
    (absent, false_from_ne_true _ (λ is. both_ways _ refl (in_grid is)))

pub absent-list_with : (d : Size) (listed : List Place) (at q : Place) → IsInside d q
    → is_listed (list_with d listed (Some at)) q ≡ false
    → (is_listed listed q ≡ false) × (is_place q at ≡ false)
absent-list_with d listed at q inside absent =
    other_if listed at q (is_inside d at) (is_listed listed at)
    (λ is. subst (λ (p : Place). is_inside d p ≡ true) (is_place-same q at is)
    (is_inside-inside d q inside)) refl absent

-- ---- what isn't listed stays

-- a write leaves the glyph of every other place
pub glyph_at-write_other : (s : State) (at q : Place) (glyph : ℕ) → IsInside s.dims at
    → IsInside s.dims q → is_place q at ≡ false
    → slice_index (set s.cells (index_of s.dims at) glyph) (index_of s.dims q) ≡ state_glyph s q
glyph_at-write_other s at q glyph here inside other =
    get_or-set_other s.cells (index_of s.dims at) (index_of s.dims q) glyph 0
    (λ same. both_ways _ other (
    let parts = index-injective s.dims.w q.y q.x at.y at.x inside.column here.column same in
    subst (λ (p : Place). is_place q p ≡ true) (same_place q.y q.x at.y at.x parts.0 parts.1)
    (is_place-refl q)))
  where
    same_place : (y x y' x' : ℕ) → y ≡ y' → x ≡ x'
        → ◌≡◌ {A = Place} (record { y = y; x = x }) (record { y = y'; x = x' })
    same_place y x y' x' row column =
        let with_row : ℕ → Place = λ n. record { y = n; x = x } in
        let with_column : ℕ → Place = λ n. record { y = y'; x = n } in
        ap with_row row ∙ ap with_column column

kept_write : (d : Slate) (at : Option Place) (glyph : ℕ) → IfSome at (IsInside d.scan.dims)
    → KeepsUnlisted d
    → (q : Place) → IsInside d.began.dims q
    → is_listed (list_with d.began.dims d.listed at) q ≡ false
    → IsInside d.scan.dims q × (slice_index (cells_after d.scan at glyph) (index_of d.scan.dims q)
    ≡ glyph_on d.began q)
kept_write d None glyph inside kept q in_began absent = kept q in_began absent
kept_write d (Some at) glyph inside kept q in_began absent =
    let apart = absent-list_with d.began.dims d.listed at q in_began absent in
    let before = kept q in_began apart.0 in
    (before.0, glyph_at-write_other d.scan at q glyph inside before.0 apart.1 ∙ before.1)

pub KeepsUnlisted-after : (d : Slate) (deed : Deed) → KeepsUnlisted d
    → KeepsUnlisted (slate_after d deed)
unfolding after list_after
KeepsUnlisted-after d (Mark at marks) kept = kept
KeepsUnlisted-after d (Write at glyph) kept =
    kept_write d (place_in d.scan.dims at) glyph (inside-place_in d.scan.dims at) kept
KeepsUnlisted-after d (Set variable glyph) kept = kept
KeepsUnlisted-after d (Emit event) kept = kept

listing_after : (d : Slate) (deed : Deed) → All (IsInside d.began.dims) d.listed
    → IsDistinct is_place d.listed
    → All (IsInside d.began.dims) (list_after d.began.dims d.scan.dims d.listed deed)
    × IsDistinct is_place (list_after d.began.dims d.scan.dims d.listed deed)
unfolding list_after
listing_after d (Mark at marks) inside once = (inside, once)
listing_after d (Write at glyph) inside once = (
  All-list_with d.began.dims d.listed (place_in d.scan.dims at) inside,
  IsDistinct-list_with
      d.began.dims d.listed (place_in d.scan.dims at) once,
)
listing_after d (Set variable glyph) inside once = (inside, once)
listing_after d (Emit event) inside once = (inside, once)

-- a deed that writes a glyph leaves a slate, where there is room for its event
pub IsSlate-after : (d : Slate) (deed : Deed) → IsSlate d → WritesGlyph deed
    → length d.scan.events + count_by is_emit (deed ∷ []) ≤ cells_of d.scan.dims
    → IsSlate (slate_after d deed)
IsSlate-after d deed slate is room =
    let listing = listing_after d deed slate.inside slate.once in
    record {
      state = IsState-after d.scan deed slate.state is room;
      began = slate.began;
      inside = listing.0;
      once = listing.1;
      kept = KeepsUnlisted-after d deed slate.kept;
    }

-- so do deeds in order
pub IsSlate-after_all : (d : Slate) (deeds : List Deed) → IsSlate d → Every WritesGlyph deeds
    → length d.scan.events + count_by is_emit deeds ≤ cells_of d.scan.dims
    → IsSlate (slate_after_all d deeds)
IsSlate-after_all d [] slate all room = slate
IsSlate-after_all d (deed ∷ deeds) slate all room =
    let count = count_by-append is_emit (deed ∷ []) deeds in
    let same : cells_of (after d.scan deed).dims ≡ cells_of d.scan.dims =
    ap cells_of (dims_after d.scan deed) in
    IsSlate-after_all (slate_after d deed) deeds
    (IsSlate-after d deed slate all.0 (omega (arith, room, count))) all.1
    (omega (arith, room, count, events_after d.scan deed, same))

-- the slate of a grid is one
pub IsSlate-of_sheet : (g : Sheet) → IsSheet g → IsSlate (slate_of_sheet g)
unfolding IsDistinct
IsSlate-of_sheet g sheet = record {
  state = IsState-fresh g sheet;
  began = sheet;
  inside = All-nil (IsInside g.dims);
  once = tt;
  kept = λ at inside absent. (inside, refl);
}

-- ---- nothing to clear

pub count-blank : (n : ℕ) → count_by is_marked (replicate n no_marks) ≡ 0
count-blank zero = refl
count-blank (suc n) = count-blank n

-- nothing is left to clear as a frame begins
pub residue-of_sheet : (g : Sheet) → residue (slate_of_sheet g) ≡ 0
unfolding residue
residue-of_sheet g = omega (arith, count-blank (cells_of g.dims))

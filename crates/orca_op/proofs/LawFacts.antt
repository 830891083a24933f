-- What the laws of rules come from, and how deeds add up.
use Rattle.std.specs.Prelude.{ℕ, zero, suc, All, ◌+◌, ◌-◌, ◌*◌, max, ◌<◌, ◌≤◌, ◌≡◌, List, [], ◌∷◌, ◌++◌, length, count_by, Option, Some, None, IfSome, Bool, refl, if◌then◌else◌}
use Rattle.std.proofs.Common.{inl, inr, arith, subst, add-one, length-append, lit≤}
use Rattle.std.proofs.Math.Nat.{eq-or-lt_of_le}
use Rattle.std.proofs.lemmas.Bool.Decides.{nat_tests}
use Rattle.std.proofs.lemmas.List.Elements.{All-push}
use Rattle.std.proofs.lemmas.List.Sums.{sum_by-append, sum_by-cons}
use Rattle.orca_base.specs.declared.limits.TheConstants.{BASE}
use Rattle.orca_base.specs.declared.place.Spot.{Spot}
use Rattle.orca_base.specs.EventRanges.{IsInRange}
use Rattle.orca_base.specs.Glyphs.{IsGlyph}
use Rattle.orca_base.proofs.GlyphFacts.{value-below}
use Rattle.orca_base.specs.declared.place.Place.{Place}
use Rattle.orca_base.specs.Grids.{IsInside, place_in}
use Rattle.orca_base.proofs.PlaceFacts.{inside-place_in}
use Rattle.orca_base.proofs.SheetFacts.{IsGlyph-index, IsGlyph-glyph_at}
use Rattle.orca_op.specs.State.{State, IsState, sheet_of, peek, var_at, glyph_in}
use Rattle.orca_op.specs.Deeds.{Deed, Mark, Write, Set, Emit, after, after_all, each_below}
use Rattle.orca_op.specs.Slate.{Slate, slate_after, slate_after_all}
use Rattle.orca_op.specs.ValueRules.{value_or}
use Rattle.orca_op.specs.Laws.{is_emit, Every, AnyDeed, EmitsInRange}

glyph_if : (s : State) (at : Option Place) → IsState s → IfSome at (IsInside s.dims)
    → IsGlyph (glyph_in s at)
glyph_if s None whole inside = (lit≤ tt, lit≤ tt)
glyph_if s (Some at) whole inside = IsGlyph-glyph_at (sheet_of s) at whole.sheet inside

-- what stands at a spot is a glyph
pub IsGlyph-peek : (s : State) (spot : Spot) → IsState s → IsGlyph (peek s spot)
unfolding peek
IsGlyph-peek s spot whole = glyph_if s (place_in s.dims spot) whole (inside-place_in s.dims spot)

-- a value, or another where it is 0, is at most the greater of the last value and the other, and 0
-- only where the other is
pub value_or-range : (glyph other : ℕ)
    → (value_or glyph other ≤ max (BASE - 1) other) × (0 < other → 0 < value_or glyph other)
unfolding value_or
value_or-range glyph other =
    let below = value-below glyph in
    (grind (arith, nat_tests), λ some. grind (arith, nat_tests))

-- what a variable holds is a glyph
pub IsGlyph-var_at : (s : State) (n : ℕ) → IsState s → n < BASE → IsGlyph (var_at s n)
unfolding var_at
IsGlyph-var_at s n whole below = IsGlyph-index s.vars n whole.glyphs (omega (arith, whole.vars))

-- at most `size` deeds for each of n numbers
pub length-each : (n size : ℕ) (deeds : ℕ → List Deed) → ((i : ℕ) → length (deeds i) ≤ size)
    → length (each_below n deeds) ≤ n * size
length-each zero size deeds bound = omega arith
length-each (suc n) size deeds bound =
    let front = length-each n size deeds bound in
    let last = bound n in
    rw length-append (grind arith)

pub count_by-append : (p : Deed → Bool) (xs ys : List Deed)
    → count_by p (xs ++ ys) ≡ count_by p xs + count_by p ys
count_by-append p xs ys = sum_by-append (λ x. if p x then 1 else 0) xs ys

-- no event for any number
pub no_event-each : (n : ℕ) (deeds : ℕ → List Deed) → ((i : ℕ) → count_by is_emit (deeds i) ≡ 0)
    → count_by is_emit (each_below n deeds) ≡ 0
no_event-each zero deeds none = refl
no_event-each (suc n) deeds none =
    rw (count_by-append is_emit (each_below n deeds) (deeds n), no_event-each n deeds none, none n) refl

pub Every-append : (P : Deed → Type 0) (xs ys : List Deed) → Every P xs → Every P ys
    → Every P (xs ++ ys)
Every-append P [] ys first second = second
Every-append P (x ∷ xs) ys first second = (first.0, Every-append P xs ys first.1 second)

-- what holds of the deeds of each number holds of all of them
pub Every-each : (P : Deed → Type 0) (n : ℕ) (deeds : ℕ → List Deed)
    → ((i : ℕ) → i < n → Every P (deeds i)) → Every P (each_below n deeds)
Every-each P zero deeds all = tt
Every-each P (suc n) deeds all =
    let front = Every-each P n deeds (λ i below. all i (omega arith)) in
    Every-append P (each_below n deeds) (deeds n) front (all n (omega arith))

pub AnyDeed-left : (P : Deed → Type 0) (xs ys : List Deed) → AnyDeed P xs → AnyDeed P (xs ++ ys)
AnyDeed-left P [] ys some = absurd some
AnyDeed-left P (x ∷ xs) ys (inl here) = inl here
AnyDeed-left P (x ∷ xs) ys (inr there) = inr (AnyDeed-left P xs ys there)

pub AnyDeed-right : (P : Deed → Type 0) (xs ys : List Deed) → AnyDeed P ys → AnyDeed P (xs ++ ys)
AnyDeed-right P [] ys some = some
AnyDeed-right P (x ∷ xs) ys some = inr (AnyDeed-right P xs ys some)

-- a deed of some number is among all of them
pub AnyDeed-each : (P : Deed → Type 0) (n i : ℕ) (deeds : ℕ → List Deed) → i < n
    → AnyDeed P (deeds i) → AnyDeed P (each_below n deeds)
AnyDeed-each P zero i deeds below some = absurd (omega arith)
AnyDeed-each P (suc n) i deeds below some =
    let at_most : i ≤ n = omega arith in
    elim (eq-or-lt_of_le at_most) [
      | inl same ↦
          let last = subst (λ (k : ℕ). AnyDeed P (deeds k)) same some in
          AnyDeed-right P (each_below n deeds) (deeds n) last
      | inr less ↦ AnyDeed-left P (each_below n deeds) (deeds n) (AnyDeed-each P n i deeds less some)
    ]

-- deeds one after another
pub slate_after_all-append : (d : Slate) (xs ys : List Deed)
    → slate_after_all d (xs ++ ys) ≡ slate_after_all (slate_after_all d xs) ys
slate_after_all-append d [] ys = refl
slate_after_all-append d (x ∷ xs) ys = slate_after_all-append (slate_after d x) xs ys

-- deeds one after another add up
pub ruleset added_up = (slate_after_all-append)

pub after_all-append : (s : State) (xs ys : List Deed)
    → after_all s (xs ++ ys) ≡ after_all (after_all s xs) ys
after_all-append s [] ys = refl
after_all-append s (x ∷ xs) ys = after_all-append (after s x) xs ys

-- the state of a slate after deeds is the state after them
pub scan-slate_after_all : (d : Slate) (deeds : List Deed)
    → (slate_after_all d deeds).scan ≡ after_all d.scan deeds
scan-slate_after_all d [] = refl
scan-slate_after_all d (deed ∷ deeds) = scan-slate_after_all (slate_after d deed) deeds

-- the deeds of one number more
pub each-more : (n : ℕ) (deeds : ℕ → List Deed) → each_below (n + 1) deeds ≡ each_below n deeds ++ deeds n
each-more n deeds = rw add-one refl

-- the deeds of one number more come after those of the numbers before
pub slate_after_all-each_more : (d : Slate) (n : ℕ) (deeds : ℕ → List Deed)
    → slate_after_all d (each_below (n + 1) deeds)
    ≡ slate_after_all (slate_after_all d (each_below n deeds)) (deeds n)
slate_after_all-each_more d n deeds =
    rw (each-more n deeds, slate_after_all-append d (each_below n deeds) (deeds n)) refl

-- the same deeds for each number below n
pub each-same : (n : ℕ) (deeds others : ℕ → List Deed) → ((i : ℕ) → i < n → deeds i ≡ others i)
    → each_below n deeds ≡ each_below n others
each-same zero deeds others same = refl
each-same (suc n) deeds others same =
    rw (each-same n deeds others (λ i below. same i (omega arith)), same n (omega arith)) refl

-- deeds by a number that is the same for each number below n
pub each-by : (n : ℕ) (deeds : ℕ → ℕ → List Deed) (f h : ℕ → ℕ) → ((i : ℕ) → i < n → f i ≡ h i)
    → each_below n (λ i. deeds i (f i)) ≡ each_below n (λ i. deeds i (h i))
each-by n deeds f h same =
    each-same n (λ i. deeds i (f i)) (λ i. deeds i (h i)) (λ i below. rw (same i below) refl)

-- deeds that send no event send none out of range
pub quiet : (deeds : List Deed) → count_by is_emit deeds ≡ 0 → Every EmitsInRange deeds
quiet [] none = tt
quiet (Mark at marks ∷ deeds) none = (tt, quiet deeds (omega arith))
quiet (Write at glyph ∷ deeds) none = (tt, quiet deeds (omega arith))
quiet (Set variable glyph ∷ deeds) none = (tt, quiet deeds (omega arith))
quiet (Emit event ∷ deeds) none =
    let counted = sum_by-cons (λ (deed : Deed). if is_emit deed then 1 else 0) (Emit event) deeds in
    absurd (omega (arith, none, counted))

-- events in range stay so after deeds that send events in range
pub in_range-after_all : (s : State) (deeds : List Deed) → All IsInRange s.events
    → Every EmitsInRange deeds → All IsInRange (after_all s deeds).events
unfolding after
in_range-after_all s [] before all = before
in_range-after_all s (Mark at marks ∷ deeds) before all =
    in_range-after_all (after s (Mark at marks)) deeds before all.1
in_range-after_all s (Write at glyph ∷ deeds) before all =
    in_range-after_all (after s (Write at glyph)) deeds before all.1
in_range-after_all s (Set variable glyph ∷ deeds) before all =
    in_range-after_all (after s (Set variable glyph)) deeds before all.1
in_range-after_all s (Emit event ∷ deeds) before all =
    let grown = All-push IsInRange s.events event before all.0 in
    in_range-after_all (after s (Emit event)) deeds grown all.1

-- A change more in a listing, and none.
use Rattle.std.proofs.Common.{◌≡◌, ℕ, zero, suc, ◌+◌, ◌<◌, ◌≤◌, Bool, true, false, not, ◌==◌, ◌&&◌, ◌||◌, cond, List, [], ◌∷◌, ◌++◌, ◌-◌, length, get_or, map, replicate, take, arith, ap, ◌∙◌, sym, refl, inl, inr, length-append, subst}
use Rattle.std.proofs.Math.ListN.{set, get_or-map}
use Rattle.std.specs.Prelude.{All, count_by, Some}
use Rattle.std.specs.List.{AllByRecursion}
use Rattle.std.proofs.lemmas.List.{get_or-set_other, get_or-set_same, get_or_default, length-set, map_push, length-map, length-replicate, map-set}
use Rattle.std.proofs.lemmas.List.{get_or-map as get_or-map-below}
use Rattle.std.proofs.lemmas.List.Sums.{sum_by-set, count_by-le-length}
use Rattle.std.proofs.lemmas.List.Folds.{list_any-append}
use Rattle.std.proofs.lemmas.List.Elements.{All-nil, All-push, recursion_from_All}
use Rattle.std.proofs.lemmas.Bool.Decides.{eqb_tells, nat_tests}
use Rattle.orca_base.specs.declared.change.Change.{Change}
use Rattle.orca_base.specs.declared.limits.TheConstants.{MAX_CELLS}
use Rattle.orca_base.specs.declared.place.Place.{Place}
use Rattle.orca_base.specs.Grids.{Size, IsInside, glyph_at as glyph_on, index_of, is_inside, largest}
use Rattle.orca_base.proofs.ListFacts.{resized}
use Rattle.orca_base.proofs.PlaceFacts.{is_place-index, is_inside-inside, inside-is_inside}
use Rattle.orca_op.specs.State.{state_glyph}
use Rattle.orca_op.specs.Slate.{Slate, KeepsUnlisted, changes_of, is_listed, list_with}
use Rattle.orca_board.specs.Listing.{IsFlagged, IsRounded, flags_of, has_number, places_of, changes_with}

-- a flag more counts one more
count_more : (flags : List Bool) (i : ℕ) → i < length flags → get_or flags i false ≡ false
    → count_by (λ flag. flag) (set flags i true) ≡ count_by (λ flag. flag) flags + 1
count_more flags i below off =
    let sums = sum_by-set (λ (flag : Bool). cond flag 1 0) flags i true false below in
    let plain = rw off at sums in
    omega (arith, plain)

-- there is room for one more where a flag is off
pub is_roomy : (changes : List Change) (flags : List Bool) (room i : ℕ)
    → IsFlagged changes flags room → i < length flags → get_or flags i false ≡ false
    → length changes < room
is_roomy changes flags room i kept below off =
    omega (
      arith,
      count_more flags i below off,
      count_by-le-length (λ (flag : Bool). flag)
          (set flags i true),
      length-set flags i true,
      kept.counted,
      kept.size,
      kept.roomy,
    )

-- a place is listed where its number is
numbered : (places : List Place) (at : Place) → IsInside largest at → All (IsInside largest) places
    → has_number places (index_of largest at) ≡ is_listed places at
numbered places at inside all = by places (recursion_from_All (IsInside largest) places all)
  where
    by : (places : List Place) → AllByRecursion (IsInside largest) places
        → has_number places (index_of largest at) ≡ is_listed places at
    by [] all = refl
    by (p ∷ places) all = rw (is_place-index largest at p inside all.0, by places all.1) refl

-- a flag is that of the listed place
pub flag_listed : (changes : List Change) (flags : List Bool) (room : ℕ) (at : Place)
    → IsFlagged changes flags room → IsInside largest at
    → get_or flags (index_of largest at) false ≡ is_listed (places_of changes) at
flag_listed changes flags room at kept inside =
    kept.only (index_of largest at) ∙ numbered (places_of changes) at inside kept.inside

or_false : (b : Bool) → b ≡ (b || false)
or_false true = refl
or_false false = refl

-- a flag that is on stands for the place that was listed, or for an earlier one
flag_at : (flags : List Bool) (i j : ℕ) → i < length flags → get_or flags i false ≡ false
    → get_or (set flags i true) j false ≡ (get_or flags j false || (j == i))
flag_at flags i j below off =
    elim (eqb_tells j i) [
      | inl same ↦ rw (same.0, same.1, get_or-set_same flags i true false below, off) refl
      | inr other ↦ rw (get_or-set_other flags i j true false other.1, other.0)
          (or_false (get_or flags j false))
    ]

pub flagged_more : (changes new : List Change) (flags : List Bool) (room room' i : ℕ)
    (change : Change)
    → IsInside largest change.at → IsFlagged changes flags room → i ≡ index_of largest change.at
    → get_or flags i false ≡ false → i < length flags → new ≡ changes ++ change ∷ [] → room ≤ room'
    → IsFlagged new (set flags i true) room'
flagged_more changes new flags room room' i change inside kept number off below pushed grows =
    let places : places_of (changes ++ change ∷ []) ≡ places_of changes ++ change.at ∷ [] =
    map_push (λ (c : Change). c.at) changes change in
    rw pushed (record {
      size = length-set flags i true ∙ kept.size;
      counted = omega (
        arith,
        length-append changes (change ∷ []),
        count_more flags i below off,
        kept.counted,
      );
      only = λ j.
          flag_at flags i j below off
          ∙ (ap (λ (b : Bool). b || (j == i)) (kept.only j)
          ∙ (ap (λ (n : ℕ). has_number (places_of changes) j || (j == n)) number
          ∙ (ap (λ (b : Bool). has_number (places_of changes) j || b)
          (or_false (j == index_of largest change.at))
          ∙ (sym (list_any-append (λ place. j == index_of largest place) (places_of changes)
          (change.at ∷ []))
          ∙ ap (λ (p : List Place). has_number p j) (sym places)))));
      inside = subst (λ (p : List Place). All (IsInside largest) p) (sym places)
          (All-push (IsInside largest) (places_of changes) change.at kept.inside inside);
      roomy = omega (arith, kept.roomy);
    })

-- the place of a change
pub inside_there : (d : Size) (changes : List Change) (i : ℕ) (default : Change)
    → All (IsInside d) (places_of changes) → i < length changes
    → IsInside d (get_or changes i default).at
inside_there d changes i default all below =
    subst (IsInside d) (get_or-map-below (λ (c : Change). c.at) changes i default default.at below)
    (all i default.at (omega (arith, below, length-map changes (λ (c : Change). c.at))))

-- ---- no change any more

no_flag : (flags : List Bool) → ((i : ℕ) → get_or flags i false ≡ false)
    → count_by (λ flag. flag) flags ≡ 0
no_flag [] off = refl
no_flag (flag ∷ flags) off =
    let first : flag ≡ false = off zero in
    rw first (no_flag flags (λ i. off (suc i)))

-- no flag is set for no changes
pub flagged_none : (flags : List Bool) (room : ℕ) → length flags ≡ MAX_CELLS
    → ((i : ℕ) → get_or flags i false ≡ false) → MAX_CELLS ≤ room → IsFlagged [] flags room
flagged_none flags room size off roomy = record {
  size = size;
  counted = sym (no_flag flags off);
  only = off;
  inside = All-nil (IsInside largest);
  roomy = roomy;
}

-- ---- rounds

later_round : (r round : ℕ) → r < round → (r == round) ≡ false
later_round r round below = grind (arith, nat_tests)

-- the flag of a place is that of its round
pub flag_of_round : (round : ℕ) (rounds : List ℕ) (i : ℕ) → 0 < round
    → get_or (flags_of round rounds) i false ≡ (get_or rounds i 0 == round)
flag_of_round round rounds i some =
    ap (λ (b : Bool). get_or (flags_of round rounds) i b) (sym (later_round 0 round some))
    ∙ get_or-map (λ (r : ℕ). r == round) rounds i 0

-- in a new round no place is listed
pub rounded_none : (rounds : List ℕ) (round room : ℕ) → length rounds ≡ MAX_CELLS
    → ((i : ℕ) → get_or rounds i 0 < round) → MAX_CELLS ≤ room → IsRounded [] rounds round room
rounded_none rounds round room size later roomy =
    let some : 0 < round = omega (arith, later 0) in
    record {
      size = size;
      flagged = flagged_none (flags_of round rounds) room
          (length-map rounds (λ (r : ℕ). r == round) ∙ size)
          (λ i. flag_of_round round rounds i some ∙ later_round (get_or rounds i 0) round (later i))
          roomy;
      some = some;
      past = λ i. omega (arith, later i);
    }

zeros : (n i : ℕ) → get_or (replicate n zero) i zero ≡ zero
zeros zero i = refl
zeros (suc n) zero = refl
zeros (suc n) (suc i) = zeros n i

-- at the start no place was listed
pub rounded_start : (n len : ℕ) (rounds start : List ℕ) (room : ℕ) → n ≡ MAX_CELLS → start ≡ []
    → len ≡ 0 → rounds ≡ take n start ++ replicate (n - len) 0 → MAX_CELLS ≤ room
    → IsRounded [] rounds 1 room
rounded_start n len rounds start room most none zero_long is roomy =
    let filled : rounds ≡ replicate n 0 = resized n len rounds start 0 none zero_long is in
    rounded_none rounds 1 room
    (ap length filled ∙ (length-replicate n 0 ∙ most))
    (λ i. omega (arith, ap (λ (r : List ℕ). get_or r i 0) filled, zeros n i)) roomy

-- the flags after a place is listed in this round
flags_set : (round : ℕ) (rounds : List ℕ) (i : ℕ)
    → flags_of round (set rounds i round) ≡ set (flags_of round rounds) i true
flags_set round rounds i =
    map-set (λ (r : ℕ). r == round) rounds i round
    ∙ ap (λ (b : Bool). set (flags_of round rounds) i b) (same_round round)
  where
    same_round : (round : ℕ) → (round == round) ≡ true
    same_round round = grind (arith, nat_tests)

-- and no place was listed later
past_set : (round : ℕ) (rounds : List ℕ) (i j : ℕ) → i < length rounds
    → ((k : ℕ) → get_or rounds k 0 ≤ round) → get_or (set rounds i round) j 0 ≤ round
past_set round rounds i j below past = elim (eqb_tells j i) [
  | inl same ↦ rw (same.1, get_or-set_same rounds i round 0 below) (omega arith)
  | inr other ↦ rw (get_or-set_other rounds i j round 0 other.1) (past j)
]

-- one change more in this round
pub rounded_more : (changes new : List Change) (rounds : List ℕ) (round room room' i : ℕ)
    (change : Change)
    → IsInside largest change.at → IsRounded changes rounds round room
    → i ≡ index_of largest change.at
    → get_or (flags_of round rounds) i false ≡ false → i < length rounds
    → new ≡ changes ++ change ∷ [] → room ≤ room' → IsRounded new (set rounds i round) round room'
rounded_more changes new rounds round room room' i change inside kept number off below pushed
    grows =
    let flagged = flagged_more changes new (flags_of round rounds) room room' i change inside
    kept.flagged number off
    (omega (arith, below, length-map rounds (λ (r : ℕ). r == round))) pushed grows in
    record {
      size = length-set rounds i round ∙ kept.size;
      flagged = rw (flags_set round rounds i) flagged;
      some = kept.some;
      past = λ j. past_set round rounds i j below kept.past;
    }

-- ---- the places of the changes

places_if : (changes : List Change) (at : Place) (old : ℕ) (adds : Bool)
    → places_of (cond adds (changes ++ record { at = at; old = old } ∷ []) changes)
    ≡ cond adds (places_of changes ++ at ∷ []) (places_of changes)
places_if changes at old true =
    map_push (λ (c : Change). c.at) changes (record { at = at; old = old })
places_if changes at old false = refl

-- they are those of the slate
pub places-changes_with : (began : Size) (changes : List Change) (at : Place) (old : ℕ)
    → places_of (changes_with began changes at old) ≡ list_with began (places_of changes) (Some at)
places-changes_with began changes at old =
    places_if changes at old (is_inside began at && not (is_listed (places_of changes) at))

-- a place that is new
pub with_new : (began : Size) (changes : List Change) (at : Place) (old : ℕ) → IsInside began at
    → is_listed (places_of changes) at ≡ false → changes_with began changes at old ≡ changes
    ++ record { at = at; old = old } ∷ []
with_new began changes at old inside absent = rw (is_inside-inside began at inside, absent) refl

-- a place that is listed
pub with_listed : (began : Size) (changes : List Change) (at : Place) (old : ℕ)
    → is_listed (places_of changes) at ≡ true → changes_with began changes at old ≡ changes
with_listed began changes at old present =
    by (is_inside began at) (is_listed (places_of changes) at) present
  where
    never : (inside : Bool) → cond (inside && false) (changes ++ record { at = at; old = old } ∷ [])
        changes ≡ changes
    never true = refl
    never false = refl

    by : (inside found : Bool) → found ≡ true → cond (inside && not found)
        (changes ++ record { at = at; old = old } ∷ []) changes ≡ changes
    by inside true is = never inside
    by inside false is = cc

-- what a write in the grid adds to the changes: its glyph of the last `begin`, for a place that
-- isn't listed still holds it
pub changes-written : (d : Slate) (changes : List Change) (at : Place) → KeepsUnlisted d
    → places_of changes ≡ d.listed → changes ≡ changes_of d
    → changes_with d.began.dims changes at (state_glyph d.scan at)
    ≡ changes_of (record d { listed = list_with d.began.dims d.listed (Some at) })
changes-written d changes at kept places is =
    rw places (by (is_inside d.began.dims at) (is_listed d.listed at)
    (inside-is_inside d.began.dims at) (λ inside absent. (kept at inside absent).1))
  where
    change : Place → Change
    change q = record { at = q; old = glyph_on d.began q }

    by : (inside found : Bool) → (inside ≡ true → IsInside d.began.dims at)
        → (IsInside d.began.dims at → found ≡ false → state_glyph d.scan at ≡ glyph_on d.began at)
        → cond (inside && not found) (changes ++ record { at = at; old = state_glyph d.scan at } ∷ [])
        changes ≡ map change (cond (inside && not found) (d.listed ++ at ∷ []) d.listed)
    by true false in_began holds =
        rw (holds (in_began refl) refl)
        (ap (λ (c : List Change). c ++ change at ∷ []) is ∙ sym (map_push change d.listed at))
    by true true in_began holds = is
    by false found in_began holds = is

-- ---- one call

off_there : (flags : List Bool) (i : ℕ) (read : Bool) → i < length flags
    → read ≡ get_or flags i read → get_or flags i false ≡ read
off_there flags i read below is = get_or_default flags i false read below ∙ sym is

-- what is known where a place is added
pub record Adds (changes : List Change) (flags : List Bool) (room : ℕ) (at : Place) (i : ℕ)
    (read : Bool) : Type 0 where
  pub inside : IsInside largest at
  pub kept : IsFlagged changes flags room
  pub number : i ≡ index_of largest at
  pub below : i < length flags
  pub flag : get_or flags i false ≡ read
  pub listed : is_listed (places_of changes) at ≡ read

pub adds : (dims : Size) (changes : List Change) (flags : List Bool) (room : ℕ) (at : Place) (i : ℕ)
    (read : Bool)
    → IsFlagged changes flags room → IsInside largest at → dims ≡ largest → i ≡ index_of dims at
    → i < MAX_CELLS → read ≡ get_or flags i read → Adds changes flags room at i read
adds dims changes flags room at i read kept inside most number below is =
    let index : i ≡ index_of largest at = number ∙ ap (λ (d : Size). index_of d at) most in
    let small : i < length flags = omega (arith, below, kept.size) in
    let flag : get_or flags i false ≡ read = off_there flags i read small is in
    record {
      inside = inside;
      kept = kept;
      number = index;
      below = small;
      flag = flag;
      listed = sym (flag_listed changes flags room at kept inside)
          ∙ (ap (λ (n : ℕ). get_or flags n false) (sym index) ∙ flag);
    }

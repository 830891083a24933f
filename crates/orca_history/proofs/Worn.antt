-- Which patches a ring may keep, and how many of the oldest go.
use Rattle.std.proofs.Common.{◌≡◌, ℕ, ◌+◌, ◌-◌, ◌<◌, ◌≤◌, Some, true, false, List, [], ◌∷◌, ◌++◌, length, take, drop, arith, ap, sym, ◌∙◌, length-append, inl, inr}
use Rattle.circular_buffer.specs.Buffer.{buffer}
use Rattle.std.specs.List.{sum}
use Rattle.std.specs.Prelude.{slice_get}
use Rattle.std.proofs.lemmas.Bool.{both_ways}
use Rattle.std.proofs.lemmas.List.{drop-drop, length-drop, length-take, map-append, take-map, take_all, take_more}
use Rattle.std.proofs.lemmas.Option.{get_or_from_slice_get, slice_get_within}
use Rattle.std.proofs.lemmas.List.Sums.{sum_by-take-le, sum_by_push}
use Rattle.orca_base.specs.declared.limits.TheConstants.{KEPT_PATCHES, MAX_TOUCHED}
use Rattle.orca_base.specs.Histories.{few_touched, worn_of}
use Rattle.orca_base.proofs.WornFacts.{few-both, few-length, few-sum, worn-cases, worn-none, worn-one}
use Rattle.orca_history.specs.Trails.{touched_of}
use Rattle.orca_history.specs.Ring.{IsRing}
use Rattle.orca_history.specs.declared.ring.Kept.{Kept}
use Rattle.orca_history.specs.declared.ring.Ring.TheInside.{Inside}

pub few-take : (n : ℕ) (xs : List ℕ) → few_touched xs ≡ true → few_touched (take n xs) ≡ true
few-take n xs few =
    few-both (take n xs) (omega (arith, few-length xs few, length-take n xs))
    (omega (arith, few-sum xs few, sum_by-take-le (λ (x : ℕ). x) xs n))

pub few-more : (xs : List ℕ) → few_touched xs ≡ true → length xs < KEPT_PATCHES
    → few_touched (xs ++ 0 ∷ []) ≡ true
few-more xs few room =
    few-both (xs ++ 0 ∷ []) (omega (arith, length-append xs (0 ∷ [])))
    (omega (arith, few-sum xs few, sum_by_push (λ (x : ℕ). x) xs 0))

-- ---- worn ones

-- the newest stays, where it may be kept alone
pub worn-newest : (xs : List ℕ) (n : ℕ) → few_touched (n ∷ []) ≡ true
    → worn_of (xs ++ n ∷ []) ≤ length xs
worn-newest [] n few = omega (arith, worn-none (n ∷ []) few)
worn-newest (x ∷ xs) n few = elim (worn-cases x (xs ++ n ∷ [])) [
  | inl none ↦ omega (arith, none.1)
  | inr some ↦ omega (arith, some.1, worn-newest xs n few)
]

-- ---- patches

-- without the newest patch there are as many touched cells less as its entry touched
pub touched-newest : (kept : List Kept) (newest : Kept)
    → slice_get kept (length kept - 1) ≡ Some newest
    → sum (touched_of kept)
    ≡ sum (touched_of (take (length kept - 1) kept)) + newest.touched
touched-newest kept newest is =
    let n : ℕ = length kept - 1 in
    let within : n < length kept = slice_get_within kept n newest is in
    let more : kept ≡ take n kept ++ newest ∷ [] =
    sym (take_all (n + 1) kept (omega arith))
    ∙ (take_more kept n newest within
    ∙ ap (λ (k : Kept). take n kept ++ k ∷ []) (get_or_from_slice_get kept n newest newest is)) in
    ap (λ (ks : List Kept). sum (touched_of ks)) more
    ∙ (ap sum (map-append (λ (k : Kept). k.touched) (take n kept) (newest ∷ []))
    ∙ sum_by_push (λ (x : ℕ). x) (touched_of (take n kept)) newest.touched)

pub few-kept : (n : ℕ) (kept : List Kept) → few_touched (touched_of kept) ≡ true
    → few_touched (touched_of (take n kept)) ≡ true
few-kept n kept few =
    ap few_touched (sym (take-map (λ (k : Kept). k.touched) n kept))
    ∙ few-take n (touched_of kept) few

-- a ring without its newest patch
pub IsRing-newest : (r : Inside) (newest : Kept) → IsRing r
    → slice_get r.kept.items (length r.kept.items - 1) ≡ Some newest
    → IsRing (record {
      kept = buffer (take (length r.kept.items - 1) r.kept.items) r.kept.capacity;
      touched = r.touched - newest.touched;
    })
IsRing-newest r newest ring is = record {
  room = ring.room;
  sum = omega (arith, ring.sum, touched-newest r.kept.items newest is);
  few = few-kept (length r.kept.items - 1) r.kept.items ring.few;
}

-- where a patch more isn't kept beside these, the oldest one is worn
pub worn-oldest : (kept : List Kept) (touched : ℕ) → 0 < length kept
    → few_touched (touched_of kept ++ touched ∷ []) ≡ false
    → worn_of (touched_of kept ++ touched ∷ [])
    ≡ 1 + worn_of (touched_of (drop 1 kept) ++ touched ∷ [])
worn-oldest [] touched some many = absurd (omega arith)
worn-oldest (oldest ∷ kept) touched some many =
    worn-one oldest.touched (touched_of kept ++ touched ∷ []) many

-- an entry alone may keep its patch
pub few-one : (touched : ℕ) → touched ≤ MAX_TOUCHED → few_touched (touched ∷ []) ≡ true
few-one touched most = few-both (touched ∷ []) (omega arith) (omega (arith, most))

-- so where there is no room for it, there are others
pub some-kept : (kept : List Kept) (touched : ℕ) → touched ≤ MAX_TOUCHED
    → few_touched (touched_of kept ++ touched ∷ []) ≡ false → 0 < length kept
some-kept [] touched most many = absurd (both_ways _ many (few-one touched most))
some-kept (oldest ∷ kept) touched most many = omega arith

-- the numbers of touched cells with one more
pub touched-more : (kept : List Kept) (newest : Kept)
    → touched_of (kept ++ newest ∷ []) ≡ touched_of kept ++ newest.touched ∷ []
touched-more kept newest = map-append (λ (k : Kept). k.touched) kept (newest ∷ [])

-- a step of the loop that makes room
pub room-made : (all kept left : List Kept) (touched : ℕ) → touched ≤ MAX_TOUCHED
    → few_touched (touched_of kept ++ touched ∷ []) ≡ false
    → length kept ≤ length all
    → kept ≡ drop (length all - length kept) all
    → worn_of (touched_of all ++ touched ∷ [])
    ≡ length all - length kept + worn_of (touched_of kept ++ touched ∷ [])
    → left ≡ drop 1 kept
    → (length left ≤ length all)
    × (left ≡ drop (length all - length left) all)
    × (worn_of (touched_of all ++ touched ∷ [])
    ≡ length all - length left + worn_of (touched_of left ++ touched ∷ []))
room-made all kept left touched most many within rest worn is =
    let some : 0 < length kept = some-kept kept touched most many in
    let long : length left + 1 ≡ length kept =
    omega (arith, ap length is, length-drop 1 kept, some) in
    let next : length all - length kept + 1 ≡ length all - length left =
    omega (arith, long, within) in (
      omega (arith, long, within),
      is ∙ (ap (drop 1) rest ∙ (drop-drop 1 (length all - length kept) all
          ∙ ap (λ (k : ℕ). drop k all) next)),
      omega (
        arith,
        worn,
        worn-oldest kept touched some many,
        next,
        ap (λ (ks : List Kept). worn_of (touched_of ks ++ touched ∷ [])) is,
      ),
    )

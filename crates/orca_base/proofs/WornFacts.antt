-- Numbers of touched cells: which are few enough, and how many of the oldest are worn.
use Rattle.std.proofs.Common.{◌≡◌, ℕ, zero, suc, ◌+◌, ◌<◌, ◌≤◌, ◌⊎◌, Bool, true, false, List, [], ◌∷◌, length, drop, refl, arith, ap, ◌∙◌, inl, inr}
use Rattle.std.specs.List.{sum}
use Rattle.std.specs.Prelude.{nat_le}
use Rattle.std.proofs.lemmas.Bool.{and_from, and_parts, le-leb, leb-true}
use Rattle.orca_base.specs.declared.limits.TheConstants.{KEPT_PATCHES, KEPT_TOUCHED}
use Rattle.orca_base.specs.Histories.{few_touched, worn_of}

-- ---- few cells

pub few-length : (xs : List ℕ) → few_touched xs ≡ true → length xs ≤ KEPT_PATCHES
few-length xs few =
    leb-true _ _ (and_parts (nat_le (length xs) KEPT_PATCHES) (nat_le (sum xs) KEPT_TOUCHED) few).0

pub few-sum : (xs : List ℕ) → few_touched xs ≡ true → sum xs ≤ KEPT_TOUCHED
few-sum xs few =
    leb-true _ _ (and_parts (nat_le (length xs) KEPT_PATCHES) (nat_le (sum xs) KEPT_TOUCHED) few).1

pub few-both : (xs : List ℕ) → length xs ≤ KEPT_PATCHES → sum xs ≤ KEPT_TOUCHED
    → few_touched xs ≡ true
few-both xs long most = and_from _ _ (le-leb _ _ long) (le-leb _ _ most)

-- ---- worn ones

pub worn-none : (xs : List ℕ) → few_touched xs ≡ true → worn_of xs ≡ 0
worn-none [] few = refl
worn-none (n ∷ ns) few = rw few refl

pub worn-one : (n : ℕ) (ns : List ℕ) → few_touched (n ∷ ns) ≡ false
    → worn_of (n ∷ ns) ≡ 1 + worn_of ns
worn-one n ns many = rw many refl

pub worn-cases : (n : ℕ) (ns : List ℕ)
    → ((few_touched (n ∷ ns) ≡ true) × (worn_of (n ∷ ns) ≡ 0))
    ⊎ ((few_touched (n ∷ ns) ≡ false) × (worn_of (n ∷ ns) ≡ suc (worn_of ns)))
worn-cases n ns = by (few_touched (n ∷ ns)) refl
  where
    by : (b : Bool) → few_touched (n ∷ ns) ≡ b
        → ((few_touched (n ∷ ns) ≡ true) × (worn_of (n ∷ ns) ≡ 0))
        ⊎ ((few_touched (n ∷ ns) ≡ false) × (worn_of (n ∷ ns) ≡ suc (worn_of ns)))
    by true is = inl (is, worn-none (n ∷ ns) is)
    by false is = inr (is, omega (arith, worn-one n ns is))

pub few-worn : (xs : List ℕ) → few_touched (drop (worn_of xs) xs) ≡ true
few-worn [] = refl
few-worn (n ∷ ns) = elim (worn-cases n ns) [
  | inl none ↦ ap (λ (k : ℕ). few_touched (drop k (n ∷ ns))) none.1 ∙ none.0
  | inr some ↦ ap (λ (k : ℕ). few_touched (drop k (n ∷ ns))) some.1 ∙ few-worn ns
]

pub many-worn : (xs : List ℕ) (k : ℕ) → k < worn_of xs → few_touched (drop k xs) ≡ false
many-worn [] k below = absurd (omega arith)
many-worn (n ∷ ns) zero below = elim (worn-cases n ns) [
  | inl none ↦ absurd (omega (arith, none.1, below))
  | inr some ↦ some.0
]
many-worn (n ∷ ns) (suc k) below = elim (worn-cases n ns) [
  | inl none ↦ absurd (omega (arith, none.1, below))
  | inr some ↦ many-worn ns k (omega (arith, some.1, below))
]

-- What the first number that passes a test is.
use Rattle.std.specs.Prelude.{ℕ, zero, suc, ◌+◌, ◌<◌, ◌≤◌, ◌≡◌, Bool, true, false, if◌then◌else◌, Option, Some, None, IfSome, is_some, unwrap_or, refl}
use Rattle.std.proofs.Common.{inl, inr, arith, ap, subst, ◌∙◌, sym, zero-add, suc-add}
use Rattle.std.proofs.lemmas.Bool.{both_ways}
use Rattle.std.proofs.Math.Nat.{eq-or-lt_of_le}
use Rattle.orca_op.specs.First.{first_where, NonePasses, IsWithin}

-- a number that passes, where none before it does, is the first
pub first_where-found : (test : ℕ → Bool) (from many i : ℕ) → from ≤ i → i < from + many
    → NonePasses test from i → test i ≡ true → first_where test from many ≡ Some i
unfolding first_where
first_where-found test from zero i low high before here = absurd (omega arith)
first_where-found test from (suc many) i low high before here =
    elim (eq-or-lt_of_le low) [
      | inl same ↦ let passes : test from ≡ true = ap test same ∙ here in rw passes (ap Some same)
      | inr less ↦
          let fails : test from ≡ false = before from (omega arith) less in
          let later : NonePasses test (from + 1) i =
          λ k above below. before k (omega arith) below
          in
          rw fails (first_where-found test (from + 1) many i (omega arith) (omega arith) later here)
    ]

-- where no number passes, there is no first
pub first_where-missing : (test : ℕ → Bool) (from many : ℕ)
    → NonePasses test from (from + many) → first_where test from many ≡ None
unfolding first_where
first_where-missing test from zero before = refl
first_where-missing test from (suc many) before =
    let fails : test from ≡ false = before from (omega arith) (omega arith) in
    let later : NonePasses test (from + 1) (from + 1 + many) =
    λ k above below. before k (omega arith) (omega arith)
    in
    rw fails (first_where-missing test (from + 1) many later)

some_if : (here : Bool) (later : Option ℕ) (from : ℕ) → is_some later ≡ true
    → is_some (if here then Some from else later) ≡ true
some_if true later from some = refl
some_if false later from some = some

-- where a number passes, there is a first
pub first_where-some : (test : ℕ → Bool) (from many i : ℕ) → from ≤ i → i < from + many
    → test i ≡ true → is_some (first_where test from many) ≡ true
unfolding first_where
first_where-some test from zero i low high here = absurd (omega arith)
first_where-some test from (suc many) i low high here =
    elim (eq-or-lt_of_le low) [
      | inl same ↦ let passes : test from ≡ true = ap test same ∙ here in rw passes refl
      | inr less ↦
          some_if (test from) _ from
          (first_where-some test (from + 1) many i (omega arith) (omega arith) here)
    ]

range_if : (here : Bool) (later : Option ℕ) (from many : ℕ)
    → IfSome later (IsWithin (from + 1) many)
    → IfSome (if here then Some from else later) (IsWithin from (suc many))
range_if true later from many within = (omega arith, omega arith)
range_if false None from many within = within
range_if false (Some i) from many within = (omega arith, omega arith)

-- the first is one of the numbers that are tested
pub first_where-range : (test : ℕ → Bool) (from many : ℕ)
    → IfSome (first_where test from many) (IsWithin from many)
unfolding first_where
first_where-range test from zero = tt
first_where-range test from (suc many) =
    range_if (test from) _ from many (first_where-range test (from + 1) many)

passes_if : (test : ℕ → Bool) (from : ℕ) (here : Bool) (later : Option ℕ) → here ≡ test from
    → IfSome later (λ i. test i ≡ true)
    → IfSome (if here then Some from else later) (λ i. test i ≡ true)
passes_if test from true later is within = sym is
passes_if test from false later is within = within

-- the first passes the test
pub first_where-passes : (test : ℕ → Bool) (from many : ℕ)
    → IfSome (first_where test from many) (λ i. test i ≡ true)
unfolding first_where
first_where-passes test from zero = tt
first_where-passes test from (suc many) =
    passes_if test from (test from) _ refl (first_where-passes test (from + 1) many)

fails_if : (test : ℕ → Bool) (from many k : ℕ) (here : Bool) (later : Option ℕ) → here ≡ test from
    → NonePasses test (from + 1) (unwrap_or later (from + 1 + many)) → from ≤ k
    → k < unwrap_or (if here then Some from else later) (from + suc many) → test k ≡ false
fails_if test from many k true later is rest low high = absurd (omega arith)
fails_if test from many k false None is rest low high =
    elim (eq-or-lt_of_le low) [
      | inl same ↦ ap test (sym same) ∙ sym is
      | inr less ↦ rest k (omega arith) (omega arith)
    ]
fails_if test from many k false (Some i) is rest low high =
    elim (eq-or-lt_of_le low) [
      | inl same ↦ ap test (sym same) ∙ sym is
      | inr less ↦ rest k (omega arith) high
    ]

-- none before the first passes, and none at all where there is no first
pub first_where-before : (test : ℕ → Bool) (from many k : ℕ) → from ≤ k
    → k < unwrap_or (first_where test from many) (from + many) → test k ≡ false
unfolding first_where
first_where-before test from zero k low high = absurd (omega arith)
first_where-before test from (suc many) k low high =
    fails_if test from many k (test from) _ refl (first_where-before test (from + 1) many) low high

unwrapped : (o : Option ℕ) (end : ℕ) → is_some o ≡ false → unwrap_or o end ≡ end
unwrapped None end none = refl
unwrapped (Some i) end none = absurd (both_ways _ none refl)

-- where there is no first, no number passes
pub first_where-none : (test : ℕ → Bool) (from many k : ℕ)
    → is_some (first_where test from many) ≡ false → from ≤ k → k < from + many → test k ≡ false
first_where-none test from many k none low high =
    first_where-before test from many k low
    (subst (λ (end : ℕ). k < end)
    (sym (unwrapped (first_where test from many) (from + many) none)) high)

-- tests that agree have the same first
pub first_where-same : (p q : ℕ → Bool) (from many : ℕ) → ((k : ℕ) → p k ≡ q k)
    → first_where p from many ≡ first_where q from many
unfolding first_where
first_where-same p q from zero agree = refl
first_where-same p q from (suc many) agree =
    rw (agree from, first_where-same p q (from + 1) many agree) refl

-- numbers that fail change nothing at the end
pub first_where-longer : (test : ℕ → Bool) (from many more : ℕ)
    → ((k : ℕ) → from + many ≤ k → test k ≡ false)
    → first_where test from (many + more) ≡ first_where test from many
unfolding first_where
first_where-longer test from zero more fails =
    rw zero-add (first_where-missing test from more (λ k low high. fails k (omega arith)))
first_where-longer test from (suc many) more fails =
    rw (suc-add, first_where-longer test (from + 1) many more (λ k low. fails k (omega arith))) refl

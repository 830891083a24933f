-- Where a chain of jumpers ends, and which places a comment locks.
use Rattle.std.specs.Prelude.{ℕ, zero, suc, ◌+◌, ◌-◌, ◌≡◌, ◌≢◌, ◌<◌, ◌≤◌, ◌==◌, not, Bool, true, false, Option, Some, None, [], ◌∷◌, unwrap_or, refl}
use Rattle.std.specs.List.{Contains}
use Rattle.std.proofs.Common.{arith, inl, inr}
use Rattle.std.proofs.Math.Nat.{eq-or-lt_of_le}
use Rattle.std.proofs.lemmas.Bool.{cases_lt}
use Rattle.std.proofs.lemmas.Bool.Decides.{eqb_tells}
use Rattle.std.proofs.lemmas.List.Elements.{Contains-append_left, Contains-append_right, Contains-push}
use Rattle.orca_base.specs.declared.limits.TheConstants.{COMMENT_REACH, JUMP_REACH}
use Rattle.orca_base.specs.declared.place.Place.{Place}
use Rattle.orca_base.specs.declared.place.Spot.{Spot}
use Rattle.orca_base.specs.Grids.{right}
use Rattle.orca_op.specs.State.{State, peek}
use Rattle.orca_op.specs.Deeds.{Write, input_at, lock_at, output_at}
use Rattle.orca_op.specs.First.{first_where}
use Rattle.orca_op.proofs.FirstFacts.{first_where-before, first_where-passes, first_where-range}
use Rattle.orca_op.specs.Laws.{Every}
use Rattle.orca_op.proofs.LawFacts.{Every-each}
use Rattle.orca_op.specs.MotionRules.{commented, chain_end, comment_length, jump, lock_deeds, sleep_deeds}
use Rattle.ops_motion.proofs.ChainLemmas.{chain_end-found, chain_end-missing}
use Rattle.ops_motion.specs.MotionLaws.{comment_length-few}
use Rattle.ops_motion.specs.Reaches.{EndsAt, HasNoEnd, IsLocked, IsOpen}

-- glyphs that differ, and glyphs that are the same, as tests
is_other : (a b : ℕ) → a ≢ b → (a == b) ≡ false
is_other a b other =
    elim (eqb_tells a b) [
      | inl same ↦ absurd (other same.1)
      | inr apart ↦ apart.0
    ]

is_same : (a b : ℕ) → a ≡ b → not (a == b) ≡ false
is_same a b same =
    elim (eqb_tells a b) [
      | inl equal ↦ rw equal.0 refl
      | inr apart ↦ absurd (apart.1 same)
    ]

-- a chain that ends within the reach writes at its end
pub hands_on : (g : ℕ) (s : State) (source : Spot) (beyond : ℕ → Spot) (k : ℕ)
    → peek s source ≢ g → 1 ≤ k → k ≤ JUMP_REACH → EndsAt g s beyond k
    → Contains (jump g s source beyond) (Write (beyond k) (peek s source))
unfolding jump
hands_on g s source beyond k first some near end =
    let ends : chain_end g s beyond ≡ Some k = chain_end-found g s beyond k some near
    (λ j low high. is_same _ _ (end.0 j low high)) (rw (is_other _ _ end.1) refl) in
    rw (is_other _ _ first, ends) (Contains-append_right (input_at source ∷ sleep_deeds beyond
    (k - 1)) _ _ (Contains-push (output_at (beyond k) ∷ []) (Write (beyond k) (peek s source))))

-- a chain with no end within the reach marks its source
pub marks_its_source : (g : ℕ) (s : State) (source : Spot) (beyond : ℕ → Spot)
    → peek s source ≢ g → HasNoEnd g s beyond → jump g s source beyond ≡ input_at source ∷ []
unfolding jump
marks_its_source g s source beyond first endless =
    let missing : chain_end g s beyond ≡ None = chain_end-missing g s beyond
    (λ j low high. is_same _ _ (endless j low (omega (arith, high)))) in
    rw (is_other _ _ first, missing) refl

-- the first number that passes comes after those that don't
not_before : (test : ℕ → Bool) (reach k : ℕ) (first : Option ℕ) → k ≤ reach
    → ((j : ℕ) → 1 ≤ j → j < k → test j ≡ false) → first_where test 1 reach ≡ first
    → k ≤ unwrap_or first reach
not_before test reach k None near fails is = near
not_before test reach k (Some i) near fails is =
    let passes : test i ≡ true = rw is at (first_where-passes test 1 reach) in
    let within : (1 ≤ i) × (i < 1 + reach) = rw is at (first_where-range test 1 reach) in
    elim (cases_lt i k) [
      | inl before ↦ let not_yet : test i ≡ false = fails i within.0 before in absurd (cc)
      | inr after ↦ after
    ]

-- a place that no `#` stands before lies in the comment
comment_reaches : (s : State) (at : Place) (k : ℕ) → k ≤ COMMENT_REACH → IsOpen s at k
    → k ≤ comment_length s at
unfolding comment_length
comment_reaches s at k near clear =
    not_before (λ i. peek s (right at i) == commented) COMMENT_REACH k _ near clear refl

-- locks stand at each of the first n places
lock_deeds-contains : (at : Place) (n k : ℕ) → 1 ≤ k → k ≤ n
    → Contains (lock_deeds at n) (lock_at (right at k))
lock_deeds-contains at zero k some few = absurd (omega arith)
lock_deeds-contains at (suc n) k some few =
    elim (eq-or-lt_of_le few) [
      | inl same ↦ let here : k ≡ n + 1 =
          omega (arith, same) in
          rw here (Contains-push (lock_deeds at n) (lock_at (right at (n + 1))))
      | inr less ↦ Contains-append_left (lock_deeds at n) _ _
          (lock_deeds-contains at n k some (omega (arith, less)))
    ]

pub comment_locks : (s : State) (at : Place) (k : ℕ) → IsLocked s at k
    → Contains (lock_deeds at (comment_length s at)) (lock_at (right at k))
comment_locks s at k locked =
    lock_deeds-contains at (comment_length s at) k locked.0
    (comment_reaches s at k locked.1 locked.2)

-- what lies in the comment comes no later than its `#`
in_comment : (reach i j : ℕ) (first : Option ℕ) → i < unwrap_or first reach → j < i + 1
    → j < unwrap_or first (1 + reach)
in_comment reach i j None within before = omega arith
in_comment reach i j (Some k) within before = omega arith

is_open : (s : State) (at : Place) (i : ℕ) → i < comment_length s at → IsOpen s at (i + 1)
unfolding comment_length
is_open s at i within j low before =
    let hashes = λ (k : ℕ). peek s (right at k) == commented in
    first_where-before hashes 1 COMMENT_REACH j low
    (in_comment COMMENT_REACH i j (first_where hashes 1 COMMENT_REACH) within before)

pub comment_locks_alone : (s : State) (at : Place)
    → Every (λ deed. (k : ℕ) × IsLocked s at k × (deed ≡ lock_at (right at k)))
    (lock_deeds at (comment_length s at))
comment_locks_alone s at =
    let few = comment_length-few s at in
    Every-each _ (comment_length s at) (λ i. lock_at (right at (i + 1)) ∷ []) (λ i below.
    ((i + 1, (omega arith, omega (arith, few, below), is_open s at i below), refl), tt))

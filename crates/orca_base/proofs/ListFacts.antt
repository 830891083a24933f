-- A slice of a vector that was written and put back into it, an empty vector that was resized, and
-- a range with a number more.
use Rattle.std.proofs.Common.{◌≡◌, ℕ, ◌≤◌, List, ◌++◌, length, ◌-◌, [], take, drop, replicate, arith, refl, ◌∙◌, ◌+◌, ◌∷◌, ap, sym}
use Rattle.std.proofs.Math.Nat.{sub-zero}
use Rattle.std.proofs.Math.Seq.{take-nil}
use Rattle.std.proofs.lemmas.List.{append-nil, drop_all, take_all, map-id}
use Rattle.std.specs.List.{range_with_len}
use Rattle.std.proofs.lemmas.List.FromFn.{map-range_with_len_more}

-- elements that are put in the place of as many
pub put_over : {A : Type 0} (new old : List A) (n : ℕ) → length new ≡ length old → length old ≤ n
    → take n (new ++ drop (length new) old) ≡ new
put_over new old n size all =
    rw (drop_all (length new) old (omega (arith, size)), append-nil new)
    (take_all n new (omega (arith, size, all)))

-- an empty list that was resized
pub resized : {A : Type 0} (n len : ℕ) (xs start : List A) (x : A) → start ≡ [] → len ≡ 0
    → xs ≡ take n start ++ replicate (n - len) x → xs ≡ replicate n x
resized n len xs start x none zero_long is =
    is ∙ (rw (none, zero_long, take-nil n, sub-zero n) refl)

-- a range with a number more
pub range-more : (a n : ℕ) → range_with_len a (n + 1) ≡ range_with_len a n ++ (a + n) ∷ []
range-more a n =
    sym (map-id (range_with_len a (n + 1)))
    ∙ (map-range_with_len_more (λ (x : ℕ). x) a n (a + n) refl
    ∙ ap (λ (l : List ℕ). l ++ (a + n) ∷ []) (map-id (range_with_len a n)))

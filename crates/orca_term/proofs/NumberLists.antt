-- The numbers of a sequence a byte at a time.
use Rattle.std.proofs.Common.{◌≡◌, ◌==◌, ◌&&◌, ℕ, ◌+◌, ◌≤◌, ◌<◌, true, false, Option, Some, None, List, [], ◌∷◌, ◌++◌, nat_le, length, get_or, drop, drop-cons, add-one, append_assoc, refl, sym, ap, ◌∙◌, rules, arith}
use Rattle.std.specs.Option.{option_map}
use Rattle.std.proofs.lemmas.Bool.{cond-true, cond-false}
use Rattle.std.proofs.lemmas.List.{drop_all}
use Rattle.orca_term.specs.Codes.{semicolon}
use Rattle.orca_term.specs.Forms.{no_digits, more, continues}
use Rattle.orca_term.specs.Keys.{numbers_from}
use Rattle.orca_term.specs.declared.forms.Number.{Number}

-- some numbers, and then those of these bytes, the first of which has begun
abbrev pub Follow : List ℕ → Number → List ℕ → Option (List ℕ)
Follow before n bytes = option_map (λ others. before ++ others) (numbers_from n bytes)

pub none_before : (n : Number) (bytes : List ℕ) → numbers_from n bytes ≡ Follow [] n bytes
none_before n bytes = by_result (numbers_from n bytes)
  where
    by_result : (o : Option (List ℕ)) → o ≡ option_map (λ others. [] ++ others) o
    by_result None = refl
    by_result (Some others) = refl

-- the next byte of these
next_byte : (before : List ℕ) (n : Number) (bytes : List ℕ) (i : ℕ) → i < length bytes
    → Follow before n (drop i bytes)
    ≡ Follow before n (get_or bytes i 0 ∷ drop (i + 1) bytes)
next_byte before n bytes i fits =
    ap (Follow before n) (drop-cons bytes i 0 fits ∙ ap (λ k. get_or bytes i 0 ∷ drop k bytes)
    (sym (add-one i)))

-- a digit more
pub digit_more : (before : List ℕ) (n : Number) (bytes : List ℕ) (i : ℕ) → i < length bytes
    → continues n (get_or bytes i 0) ≡ true
    → Follow before n (drop i bytes)
    ≡ Follow before (more n (get_or bytes i 0)) (drop (i + 1) bytes)
unfolding numbers_from
digit_more before n bytes i fits digit =
    next_byte before n bytes i fits
    ∙ ap (option_map (λ others. before ++ others))
    (cond-true (continues n (get_or bytes i 0)) _ _ digit)

-- the end of a number that others follow
pub number_more : (before : List ℕ) (n : Number) (bytes : List ℕ) (i : ℕ) → i < length bytes
    → continues n (get_or bytes i 0) ≡ false
    → (get_or bytes i 0 == semicolon && nat_le 1 n.digits) ≡ true
    → Follow before n (drop i bytes)
    ≡ Follow (before ++ n.value ∷ []) no_digits (drop (i + 1) bytes)
unfolding numbers_from
number_more before n bytes i fits other last =
    next_byte before n bytes i fits
    ∙ (ap (option_map (λ others. before ++ others))
    (cond-false (continues n (get_or bytes i 0)) _ _ other
    ∙ cond-true (get_or bytes i 0 == semicolon && nat_le 1 n.digits) _ _ last)
    ∙ by_result (numbers_from no_digits (drop (i + 1) bytes)))
  where
    by_result : (o : Option (List ℕ))
        → option_map (λ others. before ++ others) (option_map (λ others. n.value ∷ others) o)
        ≡ option_map (λ others. (before ++ n.value ∷ []) ++ others) o
    by_result None = refl
    by_result (Some others) =
        ap (λ (xs : List ℕ). Some xs) (sym (append_assoc before (n.value ∷ []) others))

-- any other byte
pub breaks : (before : List ℕ) (n : Number) (bytes : List ℕ) (i : ℕ) → i < length bytes
    → continues n (get_or bytes i 0) ≡ false
    → (get_or bytes i 0 == semicolon && nat_le 1 n.digits) ≡ false
    → Follow before n (drop i bytes) ≡ None
unfolding numbers_from
breaks before n bytes i fits other last =
    next_byte before n bytes i fits
    ∙ ap (option_map (λ others. before ++ others))
    (cond-false (continues n (get_or bytes i 0)) _ _ other
    ∙ cond-false (get_or bytes i 0 == semicolon && nat_le 1 n.digits) _ _ last)

-- the end of the bytes
pub ends : (before : List ℕ) (n : Number) (bytes : List ℕ) (i : ℕ) → length bytes ≤ i
    → 1 ≤ n.digits → Follow before n (drop i bytes) ≡ Some (before ++ n.value ∷ [])
unfolding numbers_from
ends before n bytes i over some =
    ap (Follow before n) (drop_all i bytes over)
    ∙ ap (option_map (λ others. before ++ others)) (cond-true (nat_le 1 n.digits) _ _
    (search (rules, arith)))

pub ends_early : (before : List ℕ) (n : Number) (bytes : List ℕ) (i : ℕ) → length bytes ≤ i
    → n.digits ≡ 0 → Follow before n (drop i bytes) ≡ None
unfolding numbers_from
ends_early before n bytes i over none =
    ap (Follow before n) (drop_all i bytes over)
    ∙ ap (option_map (λ others. before ++ others)) (cond-false (nat_le 1 n.digits) _ _
    (search (rules, arith)))

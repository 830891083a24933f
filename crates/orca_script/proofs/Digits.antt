-- A number that grows by one digit.
use Rattle.std.proofs.Common.{◌≡◌, ℕ, ◌+◌, ◌-◌, ◌*◌, ◌^◌, ◌<◌, ◌≤◌, Bool, true, false, ◌&&◌, List, [], ◌∷◌, ◌++◌, length, None, refl, sym, ap, ◌∙◌, arith, length-append}
use Rattle.std.specs.Prelude.{Some}
use Rattle.std.specs.List.{list_all}
use Rattle.std.specs.Char.{digit_value}
use Rattle.std.specs.Str.Parse.{digits_value, digits_value_after}
use Rattle.std.proofs.lemmas.Bool.{and_parts, and_from, ltb-true, leb-true, lt-ltb, le-leb}
use Rattle.std.proofs.lemmas.Bool.Decides.{nat_tests}
use Rattle.orca_base.specs.Glyphs.{is_digit}
use Rattle.orca_base.specs.Numbers.{is_number, number_of}
use Rattle.orca_base.specs.declared.limits.TheConstants.{MAX_DIGITS}

-- what makes digits a number
pub record IsNumber (digits : List ℕ) : Type 0 where
  pub some : 1 ≤ length digits
  pub few : length digits ≤ MAX_DIGITS
  pub all : list_all is_digit digits ≡ true
  pub small : digits_value 10 digits < 2 ^ 32

pub number_facts : (digits : List ℕ) → is_number digits ≡ true → IsNumber digits
number_facts digits e =
    let last = and_parts _ _ e in
    let third = and_parts _ _ last.0 in
    let second = and_parts _ _ third.0 in
    record {
      some = leb-true 1 (length digits) second.0;
      few = leb-true (length digits) MAX_DIGITS second.1;
      all = third.1;
      small = ltb-true (digits_value 10 digits) (2 ^ 32) last.1;
    }

pub number_from : (digits : List ℕ) → IsNumber digits → is_number digits ≡ true
number_from digits h =
    and_from _ _ (and_from _ _
    (and_from _ _ (le-leb 1 (length digits) h.some) (le-leb (length digits) MAX_DIGITS h.few))
    h.all) (lt-ltb (digits_value 10 digits) (2 ^ 32) h.small)

pub number_of-number : (digits : List ℕ) → is_number digits ≡ true →
    number_of digits ≡ Some (digits_value 10 digits)
unfolding number_of
number_of-number digits e = rw e refl

pub number_of-other : (digits : List ℕ) → is_number digits ≡ false → number_of digits ≡ None
unfolding number_of
number_of-other digits e = rw e refl

and_assoc : (a b c : Bool) → (a && (b && c)) ≡ ((a && b) && c)
and_assoc true b c = refl
and_assoc false b c = refl

pub all-append : (p : ℕ → Bool) (xs ys : List ℕ) →
    list_all p (xs ++ ys) ≡ (list_all p xs && list_all p ys)
all-append p [] ys = refl
all-append p (x ∷ xs) ys = ap (λ t. p x && t) (all-append p xs ys)
    ∙ and_assoc (p x) (list_all p xs) (list_all p ys)

value-append : (n : ℕ) (xs ys : List ℕ) →
    digits_value_after 10 n (xs ++ ys) ≡ digits_value_after 10 (digits_value_after 10 n xs) ys
value-append n [] ys = refl
value-append n (x ∷ xs) ys = value-append (n * 10 + digit_value x) xs ys

value-grows : (n : ℕ) (xs : List ℕ) → n ≤ digits_value_after 10 n xs
value-grows n [] = omega arith
value-grows n (x ∷ xs) = omega (arith, value-grows (n * 10 + digit_value x) xs)

pub digit_value-digit : (b : ℕ) → is_digit b ≡ true → digit_value b ≡ b - 48
digit_value-digit b digit = grind (arith, nat_tests)

-- a digit more, with what may follow
pub record Grows (digits : List ℕ) (b : ℕ) : Type 0 where
  pub digit : is_digit b ≡ true
  pub few : length digits < MAX_DIGITS
  pub small : digits_value 10 digits * 10 + (b - 48) < 2 ^ 32

pub value-push : (digits : List ℕ) (b : ℕ) → is_digit b ≡ true →
    digits_value 10 (digits ++ b ∷ []) ≡ digits_value 10 digits * 10 + (b - 48)
value-push digits b digit = value-append 0 digits (b ∷ [])
    ∙ ap (λ d. digits_value 10 digits * 10 + d) (digit_value-digit b digit)

pub number-push : (digits : List ℕ) (b : ℕ) → is_number digits ≡ true → Grows digits b →
    is_number (digits ++ b ∷ []) ≡ true
number-push digits b e g =
    let h = number_facts digits e in
    number_from (digits ++ b ∷ []) (record {
      some = omega (arith, length-append digits (b ∷ []));
      few = omega (arith, length-append digits (b ∷ []), g.few);
      all = all-append is_digit digits (b ∷ []) ∙ and_from _ _ h.all (and_from _ _ g.digit refl);
      small = omega (arith, value-push digits b g.digit, g.small);
    })

pub number-grows : (digits : List ℕ) (b : ℕ) (more : List ℕ) →
    is_number (digits ++ b ∷ more) ≡ true → Grows digits b
number-grows digits b more e =
    let h = number_facts (digits ++ b ∷ more) e in
    let all : (list_all is_digit digits && (is_digit b && list_all is_digit more)) ≡ true =
    sym (all-append is_digit digits (b ∷ more)) ∙ h.all in
    let digit : is_digit b ≡ true =
    (and_parts (is_digit b) (list_all is_digit more)
    (and_parts (list_all is_digit digits) (is_digit b && list_all is_digit more) all).1).0 in
    let value : digits_value 10 (digits ++ b ∷ more)
    ≡ digits_value_after 10 (digits_value 10 digits * 10 + digit_value b) more =
    value-append 0 digits (b ∷ more) in
    record {
      digit = digit;
      few = omega (arith, h.few, length-append digits (b ∷ more));
      small = omega (
        arith,
        h.small,
        value,
        digit_value-digit b digit,
        value-grows (digits_value 10 digits * 10 + digit_value b) more,
      );
    }

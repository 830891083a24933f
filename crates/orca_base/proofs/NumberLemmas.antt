-- A text that `parse` reads as a number.
use Rattle.std.proofs.Common.{◌≡◌, ℕ, ◌^◌, ◌<◌, ◌≤◌, Bool, true, false, ◌&&◌, ◌==◌, List, [], ◌∷◌, length, refl, arith, sym, Option, None, subst}
use Rattle.std.specs.Prelude.{Result, Ok, Err, nat_le, nat_lt}
use Rattle.std.specs.List.{list_all}
use Rattle.std.specs.Result.{result_ok}
use Rattle.std.specs.Char.{digit_value}
use Rattle.std.specs.Str.Parse.{AllDigits, IsNumeral, digits_value, without_leading_plus, ParsesUnsigned}
use Rattle.std.proofs.lemmas.Bool.Decides.{nat_tests}
use Rattle.std.proofs.lemmas.Bool.{ltb-true, lt-ltb, le-leb, and_parts}
use Rattle.std.proofs.Math.Bool.{and-false}
use Rattle.orca_base.specs.Glyphs.{is_digit}
use Rattle.orca_base.specs.declared.limits.TheConstants.{MAX_DIGITS}
use Rattle.orca_base.specs.Numbers.{number_of}

digit-below : (c : ℕ) → is_digit c ≡ true → digit_value c < 10
digit-below c digit = grind (arith, nat_tests)

all_digits : (text : List ℕ) → list_all is_digit text ≡ true → AllDigits 10 text
all_digits [] all = tt
all_digits (c ∷ cs) all = (
  digit-below c (and_parts (is_digit c) (list_all is_digit cs) all).0,
  all_digits cs
      (and_parts (is_digit c) (list_all is_digit cs) all).1,
)

no_plus : (text : List ℕ) → list_all is_digit text ≡ true → without_leading_plus text ≡ text
no_plus [] all = refl
no_plus (c ∷ cs) all =
    let digit = (and_parts (is_digit c) (list_all is_digit cs) all).0 in
    let other : (c == 43) ≡ false = grind (arith, nat_tests) in
    rw other refl

refused : (text : List ℕ) (below : Bool) → nat_lt (digits_value 10 text) (2 ^ 32) ≡ below
    → 1 ≤ length text → list_all is_digit text ≡ true
    → (IsNumeral 10 (without_leading_plus text)
    × (digits_value 10 (without_leading_plus text) < 2 ^ 32)
    → ⊥) → ◌≡◌ {A = Option ℕ} None (number_of text)
unfolding number_of
refused text true test some all none =
    let holds : IsNumeral 10 text × (digits_value 10 text < 2 ^ 32) =
    ((some, all_digits text all), ltb-true (digits_value 10 text) (2 ^ 32) test) in
    absurd (none (subst (λ (w : List ℕ). IsNumeral 10 w × (digits_value 10 w < 2 ^ 32))
    (sym (no_plus text all)) holds))
refused text false test some all none =
    rw (
      test,
      and-false (nat_le 1 (length text) && nat_le (length text) MAX_DIGITS
          && list_all is_digit text),
    ) refl

-- one to ten digits are a number exactly where `parse` reads one
pub number_parsed : {E : Type 0} (text : List ℕ) (r : Result ℕ E) → 1 ≤ length text
    → length text ≤ MAX_DIGITS → list_all is_digit text ≡ true → ParsesUnsigned 32 10 text r
    → result_ok r ≡ number_of text
unfolding number_of
number_parsed text (Ok n) some few all parsed =
    let same = no_plus text all in
    let value : n ≡ digits_value 10 text = rw same at parsed.1 in
    let below : digits_value 10 text < 2 ^ 32 = rw same at parsed.0.1 in
    rw (
      value,
      lt-ltb (digits_value 10 text) (2 ^ 32) below,
      all,
      le-leb 1 (length text) some,
      le-leb (length text) MAX_DIGITS few,
    ) refl
number_parsed text (Err e) some few all parsed =
    refused text (nat_lt (digits_value 10 text) (2 ^ 32)) refl some all parsed

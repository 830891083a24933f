-- The limit that a room names.
use Rattle.std.proofs.Common.{◌≡◌, ℕ, zero, suc, ◌≤◌, ◌<◌, Bool, true, false, Some, None, List, [], ◌∷◌, ◌++◌, length, refl, sym, ◌∙◌, ap, arith}
use Rattle.std.specs.Prelude.{◌&&◌, ◌^◌, Option, nat_le, nat_lt, if◌then◌else◌}
use Rattle.std.specs.Fmt.{decimal}
use Rattle.std.specs.List.{list_all, AllByRecursion}
use Rattle.std.specs.Str.{IsAscii, IsUtf8}
use Rattle.std.specs.Str.Lines.{lines}
use Rattle.std.specs.Str.Parse.{digits_value}
use Rattle.std.proofs.lemmas.Bool.{and_parts, and_from, le-leb}
use Rattle.std.proofs.lemmas.Bool.Decides.{nat_tests}
use Rattle.std.proofs.lemmas.Str.{IsUtf8-from_ascii}
use Rattle.orca_base.specs.Glyphs.{is_digit}
use Rattle.orca_base.specs.Numbers.{is_number, number_of}
use Rattle.orca_base.specs.declared.limits.TheConstants.{MAX_DIGITS, MAX_HISTORY}
use Rattle.orca_script.proofs.ReadsBack.{number_of-decimal}
use Rattle.orca_rooms.specs.Limits.{limit_given, limit_within, limit_word, room_limit}

-- a limit that a history may have is one
within_limit : (limit : ℕ) → 1 ≤ limit → limit ≤ MAX_HISTORY → limit_within (Some limit) ≡ Some limit
within_limit limit some few =
    rw (and_from _ _ (le-leb 1 limit some) (le-leb limit MAX_HISTORY few)) refl

-- what is printed of it names it
pub limit_shown : (limit : ℕ) → 1 ≤ limit → limit ≤ MAX_HISTORY
    → limit_given (limit_word ++ decimal limit) ≡ Some limit
unfolding limit_given
limit_shown limit some few =
    ap limit_within (number_of-decimal limit (omega (arith, few))) ∙ within_limit limit some few

-- ---- the second line

pub limit_none : (text : List ℕ) → lines text ≡ [] → room_limit text ≡ None
unfolding limit_given
limit_none text none = rw none refl

pub limit_one : (text line : List ℕ) (more : List (List ℕ)) → lines text ≡ line ∷ more
    → more ≡ [] → room_limit text ≡ None
unfolding limit_given
limit_one text line more one none = rw (one, none) refl

pub limit_two : (text first line : List ℕ) (more rest : List (List ℕ))
    → lines text ≡ first ∷ more → more ≡ line ∷ rest → room_limit text ≡ limit_given line
limit_two text first line more rest one two = rw (one, two) refl

-- ---- digits are text

digits_ascii : (digits : List ℕ) → list_all is_digit digits ≡ true → IsAscii digits
digits_ascii [] all i = omega arith
digits_ascii (digit ∷ digits) all zero =
    let both = and_parts (is_digit digit) (list_all is_digit digits) all in
    grind (arith, nat_tests, both.0)
digits_ascii (digit ∷ digits) all (suc i) =
    let both = and_parts (is_digit digit) (list_all is_digit digits) all in
    digits_ascii digits both.1 i

number_by : (digits : List ℕ) (is : Bool) → is_number digits ≡ is → (IsUtf8 digits → ⊥)
    → None ≡ (if is then Some (digits_value 10 digits) else None)
number_by digits false test other = refl
number_by digits true test other =
    let some = nat_le 1 (length digits) && nat_le (length digits) MAX_DIGITS in
    let front = and_parts (some && list_all is_digit digits)
    (nat_lt (digits_value 10 digits) (2 ^ 32)) test in
    let all = and_parts some (list_all is_digit digits) front.0 in
    absurd (other (IsUtf8-from_ascii digits (digits_ascii digits all.1)))

pub no_number : (digits : List ℕ) → (IsUtf8 digits → ⊥) → None ≡ number_of digits
unfolding number_of
no_number digits other = number_by digits (is_number digits) refl other

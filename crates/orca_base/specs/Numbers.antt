-- Decimal numbers of 32 bits, as words and scripts hold them.
use Rattle.std.specs.Prelude.{ℕ, ◌^◌, Bool, ◌&&◌, nat_le, nat_lt, if◌then◌else◌, List, length, Option, Some, None}
use Rattle.std.specs.List.{list_all}
use Rattle.std.specs.Str.Parse.{digits_value}
use Rattle.orca_base.specs.Glyphs.{is_digit}
use Rattle.orca_base.specs.declared.limits.TheConstants.{MAX_DIGITS}

-- 1 to 10 decimal digits whose value is below 2^32
abbrev pub is_number : List ℕ → Bool
is_number digits =
    nat_le 1 (length digits) && nat_le (length digits) MAX_DIGITS && list_all is_digit digits
    && nat_lt (digits_value 10 digits) (2 ^ 32)

-- their value; leading zeros are read
unfoldable pub number_of : List ℕ → Option ℕ
number_of digits = if is_number digits then Some (digits_value 10 digits) else None

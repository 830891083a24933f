-- What a terminal reads, in whole forms of ECMA-48: ESC [ row ; column H (cursor position), ESC [
-- style m (select graphic rendition), and bytes that are shown. A number in them has 1 to 3 digits;
-- rows and columns are counted from 1, and a style is at most 255.
use Rattle.std.specs.Prelude.{ℕ, ◌+◌, ◌-◌, ◌*◌, ◌^◌, ◌<◌, ◌≤◌, Bool, ◌&&◌, ◌==◌, nat_le, nat_lt, if◌then◌else◌, Option, Some, None, option_map, List, ◌∷◌, [], ◌++◌}
use Rattle.std.specs.Fmt.{decimal}
use Rattle.std.specs.List.{flat_map}
use Rattle.orca_base.specs.Ascii.{escape, digit_zero}
use Rattle.orca_base.specs.Glyphs.{is_digit}
use Rattle.orca_term.specs.Codes.{bracket, semicolon, letter_h, letter_m, introducer}
use Rattle.orca_term.specs.declared.forms.Form.{Form}
use Rattle.orca_term.specs.declared.forms.Form.TheVariants.{GoTo, Style, Show}
use Rattle.orca_term.specs.declared.forms.Number.{Number}
use Rattle.orca_term.specs.declared.forms.Reading.{Reading}
use Rattle.orca_term.specs.declared.forms.Reading.TheVariants.{Ready, Escaped, First, Second}
use Rattle.orca_term.specs.declared.forms.Step.{Step}
use Rattle.orca_term.specs.declared.forms.Step.TheVariants.{Goes, Gives, Breaks}
use Rattle.orca_term.specs.declared.limits.TheConstants.{FORM_DIGITS, MAX_STYLE}

-- the bytes of a form, with its numbers in decimal digits
abbrev pub bytes_of_form : Form → List ℕ
bytes_of_form (GoTo row column) =
    introducer ++ decimal row ++ semicolon ∷ [] ++ decimal column ++ letter_h ∷ []
bytes_of_form (Style style) = introducer ++ decimal style ++ letter_m ∷ []
bytes_of_form (Show byte) = byte ∷ []

-- the bytes of forms, one after another
unfoldable pub bytes_of : List Form → List ℕ
bytes_of forms = flat_map bytes_of_form forms

-- the bytes that a terminal shows
abbrev pub is_shown : ℕ → Bool
is_shown byte = nat_le 32 byte && nat_le byte 126

-- a number with no digits so far, and the number with a digit more
abbrev pub no_digits : Number
no_digits = record { digits = 0; value = 0 }

abbrev pub more : Number → ℕ → Number
more number digit = record {
  digits = number.digits + 1;
  value = number.value * 10 + (digit - digit_zero);
}

-- the byte is a digit, and the number may have one more
abbrev pub continues : Number → ℕ → Bool
continues number byte = is_digit byte && nat_lt number.digits FORM_DIGITS

-- the number can be a style
abbrev pub is_style : Number → Bool
is_style number = nat_le 1 number.digits && nat_le number.value MAX_STYLE

-- a byte after ESC [ and a number: a digit more, or the end of a row, or the end of a style
abbrev pub read_first : Number → ℕ → Step
read_first number byte =
    if continues number byte then Goes (First (more number byte))
    else (if byte == semicolon && nat_le 1 number.value then Goes (Second number.value no_digits)
    else (if byte == letter_m && is_style number then Gives (Style number.value) else Breaks))

-- a byte after ESC [, a row, `;` and a number: a digit more, or the end of a column
abbrev pub read_second : ℕ → Number → ℕ → Step
read_second row number byte =
    if continues number byte then Goes (Second row (more number byte))
    else (if byte == letter_h && nat_le 1 number.value then Gives (GoTo row number.value)
    else Breaks)

-- what a byte makes of what was read of a form
unfoldable pub read : Reading → ℕ → Step
read Ready byte =
    if byte == escape then Goes Escaped
    else (if is_shown byte then Gives (Show byte) else Breaks)
read Escaped byte = if byte == bracket then Goes (First no_digits) else Breaks
read (First number) byte = read_first number byte
read (Second row number) byte = read_second row number byte

-- the forms after a step, given those that are read from what is left
abbrev pub forms_after : Step → (Reading → Option (List Form)) → Option (List Form)
forms_after (Goes reading) rest = rest reading
forms_after (Gives form) rest = option_map (λ forms. form ∷ forms) (rest Ready)
forms_after Breaks rest = None

-- the forms that bytes are a sequence of, where a part of the first was read before them; none of
-- other bytes
unfoldable pub forms_from : Reading → List ℕ → Option (List Form)
forms_from Ready [] = Some []
forms_from _ [] = None
forms_from reading (byte ∷ bytes) = forms_after (read reading byte) (λ next. forms_from next bytes)

-- the forms that bytes are a sequence of
abbrev pub forms_of : List ℕ → Option (List Form)
forms_of bytes = forms_from Ready bytes

-- a number has no more digits than it may have, and their value
pub record IsNumber (number : Number) : Type 0 where
  pub few : number.digits ≤ FORM_DIGITS
  pub low : number.value < 10 ^ number.digits

-- what was read of a form can be a part of one
abbrev pub IsReading : Reading → Type 0
IsReading (First number) = IsNumber number
IsReading (Second row number) = (row < 10 ^ FORM_DIGITS) × IsNumber number
IsReading _ = Unit {0}

abbrev pub StepsOn : Step → Type 0
StepsOn (Goes reading) = IsReading reading
StepsOn _ = Unit {0}

-- The glyph tables: a glyph is its byte. Letters and base 36 are those of the Orca operator
-- reference.
use Rattle.std.specs.Prelude.{ℕ, ◌+◌, ◌-◌, ◌*◌, ◌/◌, ◌%◌, ◌≤◌, Bool, ◌&&◌, ◌||◌, ◌==◌, nat_lt, nat_le, if◌then◌else◌, List, [], ◌∷◌, Option, Some, None, slice_index}
use Rattle.std.specs.List.{list_any, AllByRecursion}

-- the printable bytes of ASCII, without the space
abbrev pub IsGlyph : ℕ → Type 0
IsGlyph g = (33 ≤ g) × (g ≤ 126)

-- the same as a test
abbrev pub is_glyph : ℕ → Bool
is_glyph g = nat_le 33 g && nat_le g 126

-- each of a list is a glyph
abbrev pub AreGlyphs : List ℕ → Type 0
AreGlyphs glyphs = AllByRecursion IsGlyph glyphs

-- `.`, the glyph of an empty cell
abbrev pub empty : ℕ
empty = 46

-- `*`, the bang
abbrev pub bang : ℕ
bang = 42

abbrev pub is_digit : ℕ → Bool
is_digit g = nat_le 48 g && nat_le g 57

abbrev pub is_upper : ℕ → Bool
is_upper g = nat_le 65 g && nat_le g 90

abbrev pub is_lower : ℕ → Bool
is_lower g = nat_le 97 g && nat_le g 122

-- a letter in upper case, any other glyph as it is
abbrev pub upper : ℕ → ℕ
upper g = if is_lower g then g - 32 else g

-- the value of a glyph: of a digit 0 to 9, of a letter in either case 10 to 35, of others 0
unfoldable pub value : ℕ → ℕ
value g =
    if is_digit g then g - 48
    else (if is_upper g then g - 55 else (if is_lower g then g - 87 else 0))

-- the digit or lower-case letter of a value below 36
unfoldable pub from_value : ℕ → ℕ
from_value n = if nat_lt n 10 then n + 48 else n + 87

-- the glyph of a value, a letter being in upper case exactly where `by` is one
unfoldable pub cased : ℕ → ℕ → ℕ
cased n by = if is_upper by then upper (from_value n) else from_value n

-- the signs `* # : % ! ? ; =`
abbrev pub signs : List ℕ
signs = 42 ∷ 35 ∷ 58 ∷ 37 ∷ 33 ∷ 63 ∷ 59 ∷ 61 ∷ []

-- all letters and the signs are operators
unfoldable pub is_operator : ℕ → Bool
is_operator g = is_upper g || is_lower g || list_any (λ sign. sign == g) signs

-- a lower-case letter works only beside a bang
unfoldable pub needs_bang : ℕ → Bool
needs_bang g = is_lower g

-- the degree of an upper-case letter counts from C; A counts as H, and B as I
abbrev pub degree : ℕ → ℕ
degree letter = if nat_lt letter 67 then letter - 60 else letter - 67

-- the semitones of the seven degrees of a scale, from C
abbrev pub semitones : List ℕ
semitones = 0 ∷ 2 ∷ 4 ∷ 5 ∷ 7 ∷ 9 ∷ 11 ∷ []

-- the note number of an upper-case letter
abbrev pub natural_note : ℕ → ℕ
natural_note letter = 12 * (degree letter / 7) + slice_index semitones (degree letter % 7)

-- the note number of a letter, a lower-case one being a semitone higher; other glyphs have none
unfoldable pub note_number : ℕ → Option ℕ
note_number g =
    if is_upper g then Some (natural_note g)
    else (if is_lower g then Some (natural_note (upper g) + 1) else None)

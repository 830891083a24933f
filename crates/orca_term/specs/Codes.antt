-- The bytes of ASCII that the sequences of ECMA-48 are made of, beside ESC.
use Rattle.std.specs.Prelude.{ℕ, List, [], ◌∷◌}
use Rattle.orca_base.specs.Ascii.{escape}

-- `[`, which makes a sequence of an ESC
abbrev pub bracket : ℕ
bracket = 91

-- `;`, between two numbers
abbrev pub semicolon : ℕ
semicolon = 59

-- `#`, which begins and ends a comment
abbrev pub hash_sign : ℕ
hash_sign = 35

-- `+`, which the ruler shows
abbrev pub plus : ℕ
plus = 43

-- `<`, which begins a report of the mouse, and `M`, which ends it
abbrev pub less : ℕ
less = 60

abbrev pub capital_m : ℕ
capital_m = 77

-- `H`, the end of a cursor position
abbrev pub letter_h : ℕ
letter_h = 72

-- `m`, the end of a graphic rendition
abbrev pub letter_m : ℕ
letter_m = 109

-- `O`, which makes a single shift of an ESC: SS3 of ECMA-48
abbrev pub letter_o : ℕ
letter_o = 79

-- `t`, the end of a report of the size of a terminal
abbrev pub letter_t : ℕ
letter_t = 116

-- `~`, the end of a key that has a number
abbrev pub tilde : ℕ
tilde = 126

-- ESC [, which begins a sequence
abbrev pub introducer : List ℕ
introducer = escape ∷ bracket ∷ []

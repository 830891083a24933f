-- The bytes of ASCII that texts are made of, beside the glyphs.
use Rattle.std.specs.Prelude.{ℕ}

abbrev pub line_feed : ℕ
line_feed = 10

abbrev pub carriage_return : ℕ
carriage_return = 13

abbrev pub escape : ℕ
escape = 27

abbrev pub space : ℕ
space = 32

abbrev pub hash : ℕ
hash = 35

abbrev pub dash : ℕ
dash = 45

abbrev pub digit_zero : ℕ
digit_zero = 48

abbrev pub letter_a : ℕ
letter_a = 65

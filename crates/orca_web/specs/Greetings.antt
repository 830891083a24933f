-- The key, and how a terminal begins.
use Rattle.std.specs.Prelude.{ℕ, List, ◌∷◌, ◌++◌, length, codes, Bool, if◌then◌else◌, ◌&&◌, ◌||◌, ◌==◌, nat_le, nat_eq, Option, None, Some}
use Rattle.std.specs.List.{list_all, starts_with}
use Rattle.std.specs.Char.{is_ascii_alphanumeric}
use denote.Ref.{Bor}
use Rattle.orca_web.specs.declared.limits.TheConstants.{MIN_KEY_LETTERS, MAX_KEY_LETTERS}
use Rattle.orca_web.specs.declared.judge.Verdict.{Verdict}
use Rattle.orca_web.specs.declared.judge.Verdict.TheVariants.{More, Terminal, Refused}
use Rattle.orca_web.specs.declared.judge.Refusal.TheVariants.{Silent}

-- a letter, a digit, a hyphen or a low line
abbrev pub is_key_letter : ℕ → Bool
is_key_letter letter = is_ascii_alphanumeric letter || letter == 45 || letter == 95

-- the letters are a key
abbrev pub is_key : List ℕ → Bool
is_key letters =
    nat_le MIN_KEY_LETTERS (length letters) && nat_le (length letters) MAX_KEY_LETTERS
    && list_all is_key_letter letters

-- the byte that a terminal begins with: what its player sends first is a sequence
abbrev pub escape : ℕ
escape = 27

-- the greeting of a terminal: ESC _ KEY ESC \
abbrev pub greeting_bytes : List ℕ → List ℕ
greeting_bytes letters = (escape ∷ codes "_") ++ letters ++ (escape ∷ codes "\\")

-- bytes begin with the greeting, or are a beginning of it, or are none
abbrev pub greeting_verdict : List ℕ → List ℕ → Verdict
greeting_verdict greeting bytes =
    if starts_with nat_eq bytes greeting then Terminal (length greeting)
    else (if starts_with nat_eq greeting bytes then More else Refused Silent)

-- what a connection that begins with ESC is: without a key, ESC is the first of its keys
abbrev pub terminal_verdict : Option (Bor (List ℕ)) → List ℕ → Verdict
terminal_verdict None bytes = Terminal 0
terminal_verdict (Some key) bytes = greeting_verdict (greeting_bytes key.now) bytes

-- A word that doesn't begin with a dash goes to the positional whose turn it is.
use Rattle.std.proofs.Common.{◌≡◌, List, [], ◌∷◌, true, false, ℕ, Bool, ◌==◌, None, sym, refl}
use Rattle.std.specs.Prelude.{not}
use Rattle.std.specs.Str.{bytes_eq}
use Rattle.clap.specs.Words.{Rule, Shape, Text}
use Rattle.clap.specs.Lexer.{long_of, short_of}
use Rattle.clap.specs.Walk.{Held, Walk, arg_by_index, idle, to_positional, value, walked, word_met}
use Rattle.clap.specs.Faults.{step_fault, turn_fault, word_fault}
use Rattle.orca_base.specs.Ascii.{dash}

-- it may be empty
abbrev pub has_no_dash : Text → Bool
has_no_dash [] = true
has_no_dash (first ∷ others) = not (first == dash)

no_dash : (b : Bool) → not b ≡ true → b ≡ false
no_dash true h = sym h
no_dash false h = refl

no_dashes : (word : Text) → has_no_dash word ≡ true → bytes_eq word (dash ∷ dash ∷ []) ≡ false
no_dashes [] plain = refl
no_dashes (x ∷ xs) plain =
    let no : (x == dash) ≡ false = no_dash (x == dash) plain in
    rw no refl

no_long : (word : Text) → has_no_dash word ≡ true → long_of word ≡ None
no_long [] plain = refl
no_long (x ∷ xs) plain =
    let no : (x == dash) ≡ false = no_dash (x == dash) plain in
    rw no refl

no_short : (word : Text) → has_no_dash word ≡ true → short_of word ≡ None
no_short [] plain = refl
no_short (x ∷ xs) plain =
    let no : (x == dash) ≡ false = no_dash (x == dash) plain in
    rw no refl

met : (rules : List Rule) (place : ℕ) (word : Text) (held : Held) → has_no_dash word ≡ true
    → word_met rules [] false idle place word held ≡ (held, value)
met rules place word held plain =
    rw (no_dashes word plain) (rw (no_long word plain) (rw (no_short word plain) refl))

faultless : (shape : Shape) (word : Text) (held : Held) → has_no_dash word ≡ true
    → word_fault shape [] false idle word held ≡ []
faultless shape word held plain =
    rw (no_dashes word plain) (rw (no_long word plain) (rw (no_short word plain) refl))

-- a walk over words that waits for no value
abbrev pub idle_at : Held → ℕ → Walk
idle_at held place = record {
  held = held;
  waiting = idle;
  position = place;
  is_trailing = false;
  stopped = None;
}

pub plain_walked : (rules : List Rule) (held : Held) (place : ℕ) (word : Text)
    → has_no_dash word ≡ true → walked rules [] (idle_at held place) word
    ≡ to_positional rules (arg_by_index rules place) word (idle_at held place) held
unfolding walked
plain_walked rules held place word plain = rw (met rules place word held plain) refl

pub plain_turn : (shape : Shape) (held : Held) (place : ℕ) (word : Text)
    → has_no_dash word ≡ true
    → turn_fault shape [] (idle_at held place) word ≡ step_fault shape place held value
plain_turn shape held place word plain =
    rw (met shape.rules place word held plain, faultless shape word held plain) refl

-- A printed command is read as that command, and is one line.
use Rattle.std.proofs.Common.{◌≡◌, ℕ, ◌^◌, ◌-◌, ◌<◌, ◌≤◌, Bool, true, false, eqb, List, [], ◌∷◌, ◌++◌, length, get_or, map, None, Some, Option, Ok, refl, ap, ◌∙◌, arith, zero, suc, append_assoc}
use Rattle.std.specs.Prelude.{not, nat_le, IfSome, codes}
use Rattle.std.specs.List.{list_all, flat_map, All, AllByRecursion}
use Rattle.std.specs.Option.{option_to_list}
use Rattle.std.specs.Char.{digit_value}
use Rattle.std.specs.Fmt.{decimal}
use Rattle.std.specs.Str.Lines.{lines}
use Rattle.std.specs.Str.Parse.{AllDigits, digits_value}
use Rattle.std.proofs.lemmas.Bool.{and_parts, and_from, le-leb, leb-true, ne_eqb, not_from_false, cond-false}
use Rattle.std.proofs.lemmas.Bool.Decides.{nat_tests}
use Rattle.std.proofs.lemmas.Fmt.{decimal_is_IsNumeral, length-decimal-le}
use Rattle.std.proofs.lemmas.List.{append-nil}
use Rattle.std.proofs.lemmas.List.Elements.{recursion_from_All}
use Rattle.orca_base.specs.Glyphs.{is_digit, is_glyph, IsGlyph}
use Rattle.orca_base.specs.Numbers.{number_of}
use Rattle.orca_base.specs.declared.command.Command.{Command}
use Rattle.orca_base.specs.declared.command.Command.TheVariants.{Frame, Write, Fill, Erase, Copy, Cut, Clip, Paste, Move, Resize, Reset, Undo, Rewind, Redo, Retract, Hush}
use Rattle.orca_script.specs.Canonical.{Line, line_with, line_text, line_of, sides, canonical, printed, HasValues}
use Rattle.orca_script.specs.LineValues.{command_named}
use Rattle.orca_script.specs.Grammar.{is_space, words_of, glyph_word, values_by, line_forms, has_no_command, line_command}
use Rattle.orca_script.specs.Reading.{reading}
use Rattle.orca_script.proofs.Digits.{number_from, number_of-number, all-append}
use Rattle.orca_script.proofs.TextLines.{lines-ended}
use Rattle.orca_script.proofs.Words.{is_plain, front, later_words, words-plain, later-none, later-space}

-- the digits of a number
digit_from_value : (b : ℕ) → digit_value b < 10 → is_digit b ≡ true
digit_from_value b low = grind (arith, nat_tests)

all_digits : (ds : List ℕ) → AllDigits 10 ds → list_all is_digit ds ≡ true
all_digits [] all = refl
all_digits (b ∷ ds) all = and_from _ _ (digit_from_value b all.0) (all_digits ds all.1)

digit_plain : (b : ℕ) → is_digit b ≡ true → not (is_space b) ≡ true
digit_plain b digit = grind (arith, nat_tests)

plain_digits : (ds : List ℕ) → list_all is_digit ds ≡ true → is_plain ds ≡ true
plain_digits [] all = refl
plain_digits (b ∷ ds) all = let both = and_parts _ _ all in
    and_from _ _ (digit_plain b both.0) (plain_digits ds both.1)

record IsDecimal (n : ℕ) : Type 0 where
  some : 1 ≤ length (decimal n)
  all : list_all is_digit (decimal n) ≡ true
  value : digits_value 10 (decimal n) ≡ n

decimal_facts : (n : ℕ) → n < 2 ^ 32 → IsDecimal n
decimal_facts n small =
    let h = decimal_is_IsNumeral n (omega arith) in
    record { some = omega (arith, h.0.0); all = all_digits (decimal n) h.0.1; value = h.1 }

pub number_of-decimal : (n : ℕ) → n < 2 ^ 32 → number_of (decimal n) ≡ Some n
number_of-decimal n small =
    let h = decimal_facts n small in
    let few : length (decimal n) ≤ 10 = length-decimal-le 10 n (omega arith) (omega arith)
    (omega arith) in
    number_of-number (decimal n)
    (number_from (decimal n)
    (record { some = h.some; few = few; all = h.all; small = omega (arith, h.value, small) }))
    ∙ ap (λ (v : ℕ). Some v) h.value

-- the words of a line
words-front : (word bytes : List ℕ) → 1 ≤ length word → is_plain word ≡ true →
    words_of (word ++ bytes) ≡ (word ++ front bytes) ∷ later_words bytes
words-front [] bytes some plain = absurd (omega arith)
words-front (b ∷ word) bytes some plain = words-plain b word bytes plain

abbrev tail : List ℕ → Option ℕ → List ℕ
tail numbers glyph = flat_map (λ number. 32 ∷ decimal number) numbers ++ flat_map (λ g. 32 ∷ g ∷ [])
    (option_to_list glyph)

front-tail : (numbers : List ℕ) (glyph : Option ℕ) → front (tail numbers glyph) ≡ []
front-tail [] None = refl
front-tail [] (Some g) = refl
front-tail (n ∷ numbers) glyph = refl

abbrev glyph_words : Option ℕ → List (List ℕ)
glyph_words glyph = map (λ g. g ∷ []) (option_to_list glyph)

glyph_plain : (g : ℕ) → IsGlyph g → not (is_space g) ≡ true
glyph_plain g visible = not_from_false _ (ne_eqb g 32 (λ e. omega (arith, e, visible.0)))

later-tail : (numbers : List ℕ) (glyph : Option ℕ) → AllByRecursion (λ n. n < 2 ^ 32) numbers →
    IfSome glyph IsGlyph → later_words (tail numbers glyph) ≡ map decimal numbers
    ++ glyph_words glyph
later-tail [] None small visible = later-none
later-tail [] (Some g) small visible =
    later-space 32 (g ∷ []) refl ∙ (words-plain g [] [] (and_from _ _ (glyph_plain g visible) refl)
    ∙ ap (λ words. (g ∷ []) ∷ words) later-none)
later-tail (n ∷ numbers) glyph small visible =
    let h = decimal_facts n small.0 in
    let rest = tail numbers glyph in
    let cut : words_of (decimal n ++ rest) ≡ (decimal n ++ front rest) ∷ later_words rest =
    words-front (decimal n) rest h.some (plain_digits (decimal n) h.all) in
    let alone : decimal n ++ front rest ≡ decimal n =
    ap (λ f. decimal n ++ f) (front-tail numbers glyph) ∙ append-nil (decimal n) in
    later-space 32 ((decimal n ++ flat_map (λ number. 32 ∷ decimal number) numbers)
    ++ flat_map (λ g. 32 ∷ g ∷ []) (option_to_list glyph)) refl
    ∙ (ap words_of (append_assoc (decimal n) (flat_map (λ number. 32 ∷ decimal number) numbers)
    (flat_map (λ g. 32 ∷ g ∷ []) (option_to_list glyph)))
    ∙ (cut ∙ (ap (λ word. word ∷ later_words rest) alone
    ∙ ap (λ words. decimal n ∷ words) (later-tail numbers glyph small.1 visible))))

pub words-spaced : (word numbers : List ℕ) (glyph : Option ℕ) → 1 ≤ length word → is_plain word ≡ true →
    HasValues (line_with word numbers glyph) → words_of (line_text (line_with word numbers glyph))
    ≡ word ∷ (map decimal numbers ++ glyph_words glyph)
words-spaced word numbers glyph some plain values =
    words-front word (tail numbers glyph) some plain
    ∙ (ap (λ f. (word ++ f) ∷ later_words (tail numbers glyph)) (front-tail numbers glyph)
    ∙ (ap (λ w. w ∷ later_words (tail numbers glyph)) (append-nil word)
    ∙ ap (λ words. word ∷ words)
    (later-tail numbers glyph (recursion_from_All _ numbers values.small) values.visible)))

glyph_of-glyph : (g : ℕ) → IsGlyph g → glyph_word (g ∷ []) ≡ Some g
glyph_of-glyph g visible = let h : is_glyph g ≡ true =
    and_from _ _ (le-leb 33 g visible.0) (le-leb g 126 visible.1) in rw h refl

-- the number at a place is read
number_at : (l : Line) → HasValues l → (k : ℕ) → k < length l.numbers →
    number_of (decimal (get_or l.numbers k 0)) ≡ Some (get_or l.numbers k 0)
number_at l values k h = number_of-decimal (get_or l.numbers k 0) (values.small k 0 h)

-- the line of each command is read as the command
pub reads : (command : Command) → HasValues (line_of command) →
    line_command (canonical command) ≡ Some command
unfolding line_of line_command line_forms values_by command_named
reads Frame values = rw (words-spaced (codes "frame") [] None (omega arith) refl values) refl
reads (Write y x glyph) values =
    rw (
      words-spaced (codes "write") (y ∷ x ∷ []) (Some glyph) (omega arith) refl values,
      number_at _ values 0 (omega arith),
      number_at _ values 1 (omega arith),
      glyph_of-glyph glyph values.visible,
    ) refl
reads (Fill rect glyph) values =
    rw (
      words-spaced (codes "fill") (sides rect) (Some glyph) (omega arith) refl values,
      number_at _ values 0 (omega arith),
      number_at _ values 1 (omega arith),
      number_at _ values 2 (omega arith),
      number_at _ values 3 (omega arith),
      glyph_of-glyph glyph values.visible,
    ) refl
reads (Erase rect) values =
    rw (
      words-spaced (codes "erase") (sides rect) None (omega arith) refl values,
      number_at _ values 0 (omega arith),
      number_at _ values 1 (omega arith),
      number_at _ values 2 (omega arith),
      number_at _ values 3 (omega arith),
    ) refl
reads (Copy rect) values =
    rw (
      words-spaced (codes "copy") (sides rect) None (omega arith) refl values,
      number_at _ values 0 (omega arith),
      number_at _ values 1 (omega arith),
      number_at _ values 2 (omega arith),
      number_at _ values 3 (omega arith),
    ) refl
reads (Cut rect) values =
    rw (
      words-spaced (codes "cut") (sides rect) None (omega arith) refl values,
      number_at _ values 0 (omega arith),
      number_at _ values 1 (omega arith),
      number_at _ values 2 (omega arith),
      number_at _ values 3 (omega arith),
    ) refl
reads (Clip y x glyph) values =
    rw (
      words-spaced (codes "clip") (y ∷ x ∷ []) (Some glyph) (omega arith) refl values,
      number_at _ values 0 (omega arith),
      number_at _ values 1 (omega arith),
      glyph_of-glyph glyph values.visible,
    ) refl
reads (Paste y x) values =
    rw (
      words-spaced (codes "paste") (y ∷ x ∷ []) None (omega arith) refl values,
      number_at _ values 0 (omega arith),
      number_at _ values 1 (omega arith),
    ) refl
reads (Move rect y x) values =
    rw (
      words-spaced (codes "move") (sides rect ++ y ∷ x ∷ []) None (omega arith) refl values,
      number_at _ values 0 (omega arith),
      number_at _ values 1 (omega arith),
      number_at _ values 2 (omega arith),
      number_at _ values 3 (omega arith),
      number_at _ values 4 (omega arith),
      number_at _ values 5 (omega arith),
    ) refl
reads (Resize h w) values =
    rw (
      words-spaced (codes "resize") (h ∷ w ∷ []) None (omega arith) refl values,
      number_at _ values 0 (omega arith),
      number_at _ values 1 (omega arith),
    ) refl
reads Reset values = rw (words-spaced (codes "reset") [] None (omega arith) refl values) refl
reads Undo values = rw (words-spaced (codes "undo") [] None (omega arith) refl values) refl
reads (Rewind moment) values =
    rw (
      words-spaced (codes "rewind") (moment ∷ []) None (omega arith) refl values,
      number_at _ values 0 (omega arith),
    ) refl
reads Redo values = rw (words-spaced (codes "redo") [] None (omega arith) refl values) refl
reads (Retract moment) values =
    rw (
      words-spaced (codes "retract") (moment ∷ []) None (omega arith) refl values,
      number_at _ values 0 (omega arith),
    ) refl
reads Hush values = rw (words-spaced (codes "hush") [] None (omega arith) refl values) refl

-- it has a command
pub has_command : (command : Command) → has_no_command (canonical command) ≡ false
unfolding line_of
has_command Frame = refl
has_command (Write y x glyph) = refl
has_command (Fill rect glyph) = refl
has_command (Erase rect) = refl
has_command (Copy rect) = refl
has_command (Cut rect) = refl
has_command (Clip y x glyph) = refl
has_command (Paste y x) = refl
has_command (Move rect y x) = refl
has_command (Resize h w) = refl
has_command Reset = refl
has_command Undo = refl
has_command (Rewind moment) = refl
has_command Redo = refl
has_command (Retract moment) = refl
has_command Hush = refl

pub reads_back : (command : Command) → HasValues (line_of command) →
    reading (canonical command) ≡ Ok (Some command)
unfolding reading
reads_back command values = rw (has_command command, reads command values) refl

-- each byte is a space or visible
abbrev is_shown : ℕ → Bool
is_shown b = nat_le 32 b

digit_shown : (b : ℕ) → is_digit b ≡ true → is_shown b ≡ true
digit_shown b digit = grind (arith, nat_tests)

shown_digits : (ds : List ℕ) → list_all is_digit ds ≡ true → list_all is_shown ds ≡ true
shown_digits [] all = refl
shown_digits (b ∷ ds) all = let both = and_parts _ _ all in
    and_from _ _ (digit_shown b both.0) (shown_digits ds both.1)

both_shown : (xs ys : List ℕ) → list_all is_shown xs ≡ true → list_all is_shown ys ≡ true →
    list_all is_shown (xs ++ ys) ≡ true
both_shown xs ys left right = all-append is_shown xs ys ∙ and_from _ _ left right

numbers_shown : (numbers : List ℕ) → AllByRecursion (λ n. n < 2 ^ 32) numbers →
    list_all is_shown (flat_map (λ number. 32 ∷ decimal number) numbers) ≡ true
numbers_shown [] small = refl
numbers_shown (n ∷ numbers) small =
    both_shown (32 ∷ decimal n) (flat_map (λ number. 32 ∷ decimal number) numbers)
    (shown_digits (decimal n) (decimal_facts n small.0).all) (numbers_shown numbers small.1)

glyph_shown : (glyph : Option ℕ) → IfSome glyph IsGlyph →
    list_all is_shown (flat_map (λ g. 32 ∷ g ∷ []) (option_to_list glyph)) ≡ true
glyph_shown None visible = refl
glyph_shown (Some g) visible = and_from _ _ (le-leb 32 g (omega (arith, visible.0))) refl

pub spaced_shown : (l : Line) → list_all is_shown l.word ≡ true → HasValues l →
    list_all is_shown (line_text l) ≡ true
spaced_shown l word values =
    both_shown l.word (tail l.numbers l.glyph) word
    (both_shown (flat_map (λ number. 32 ∷ decimal number) l.numbers)
    (flat_map (λ g. 32 ∷ g ∷ []) (option_to_list l.glyph))
    (numbers_shown l.numbers (recursion_from_All _ l.numbers values.small))
    (glyph_shown l.glyph values.visible))

word_shown : (command : Command) → list_all is_shown (line_of command).word ≡ true
unfolding line_of
word_shown Frame = refl
word_shown (Write y x glyph) = refl
word_shown (Fill rect glyph) = refl
word_shown (Erase rect) = refl
word_shown (Copy rect) = refl
word_shown (Cut rect) = refl
word_shown (Clip y x glyph) = refl
word_shown (Paste y x) = refl
word_shown (Move rect y x) = refl
word_shown (Resize h w) = refl
word_shown Reset = refl
word_shown Undo = refl
word_shown (Rewind moment) = refl
word_shown Redo = refl
word_shown (Retract moment) = refl
word_shown Hush = refl

-- no shown byte is part of the end of a line
shown_apart : (b c : ℕ) → is_shown b ≡ true → c < 32 → eqb b c ≡ false
shown_apart b c shown low = let h : 32 ≤ b = leb-true 32 b shown in
    ne_eqb b c (λ e. omega (arith, e))

no_line_feed : (bytes : List ℕ) → list_all is_shown bytes ≡ true → All (λ b. eqb b 10 ≡ false) bytes
no_line_feed [] shown k d h = absurd (omega arith)
no_line_feed (b ∷ bytes) shown zero d h = shown_apart b 10 (and_parts _ _ shown).0 (omega arith)
no_line_feed (b ∷ bytes) shown (suc k) d h =
    no_line_feed bytes (and_parts _ _ shown).1 k d (omega arith)

no_return : (bytes : List ℕ) (k : ℕ) → list_all is_shown bytes ≡ true →
    eqb (get_or bytes k 0) 13 ≡ false
no_return [] k shown = refl
no_return (b ∷ bytes) zero shown = shown_apart b 13 (and_parts _ _ shown).0 (omega arith)
no_return (b ∷ bytes) (suc k) shown = no_return bytes k (and_parts _ _ shown).1

pub shown_line : (bytes rest : List ℕ) → list_all is_shown bytes ≡ true →
    lines ((bytes ++ 10 ∷ []) ++ rest) ≡ bytes ∷ lines rest
shown_line bytes rest shown =
    ap lines (append_assoc bytes (10 ∷ []) rest)
    ∙ (lines-ended bytes rest (no_line_feed bytes shown)
    ∙ ap (λ l. l ∷ lines rest) (cond-false (eqb (get_or bytes (length bytes - 1) 0) 13) _ _
    (no_return bytes (length bytes - 1) shown)))

-- what is printed is one line before any text
pub one_line : (command : Command) (rest : List ℕ) → HasValues (line_of command) →
    lines (printed command ++ rest) ≡ canonical command ∷ lines rest
one_line command rest values =
    shown_line (canonical command) rest (spaced_shown (line_of command) (word_shown command) values)

-- What a line gives along a form is what its words give by the grammar.
use Rattle.std.proofs.Common.{◌≡◌, ℕ, ◌+◌, ◌-◌, ◌*◌, ◌^◌, ◌<◌, ◌≤◌, Bool, true, false, eqb, ◌&&◌, List, [], ◌∷◌, ◌++◌, length, None, Some, Option, refl, ◌∙◌, arith, append_assoc}
use Rattle.std.specs.Prelude.{nat_le, nat_lt, option_and_then, if◌then◌else◌}
use Rattle.std.specs.Option.{option_map}
use Rattle.std.specs.Str.{bytes_eq}
use Rattle.std.specs.Str.Parse.{digits_value}
use Rattle.std.proofs.lemmas.Bool.{and_parts, and_from, not-true, eqb-true, ne_eqb, lt-ltb, ltb-true, leb-true, false_from_ne_true, both_ways}
use Rattle.std.proofs.lemmas.List.{append-nil, length_push}
use Rattle.orca_base.specs.Glyphs.{is_digit, is_glyph}
use Rattle.orca_base.specs.Numbers.{is_number}
use Rattle.orca_base.specs.declared.limits.TheConstants.{MAX_DIGITS}
use Rattle.orca_script.specs.declared.forms.Kind.{Kind}
use Rattle.orca_script.specs.declared.forms.Kind.TheVariants.{Number, Glyph, Word}
use Rattle.orca_script.specs.LineValues.{LineValues, adding_number, with_glyph}
use Rattle.orca_script.specs.Grammar.{is_space, words_of, glyph_word, values_by}
use Rattle.orca_script.specs.Readers.{values_at_end}
use Rattle.orca_script.specs.Reading.{Next, Letters, Blank, Digits, state, longer_number, digits_state, word_start, step}
use Rattle.orca_script.proofs.Digits.{Grows, number_from, number-push, number-grows, value-push, number_of-number, number_of-other}
use Rattle.orca_script.proofs.Words.{is_plain, fixed, front, later_words, words-plain, words-none, words-space, later-none, later-space, later-plain}

-- what bytes give in the end
abbrev pub final : List ℕ → Next → LineValues → Option LineValues
final [] next values = values_at_end next values
final (b ∷ bytes) next values =
    option_and_then (λ s. final bytes s.next s.values) (step next values b)

-- what bytes give by the grammar, from each state on
pub record Agrees (bytes : List ℕ) : Type 0 where
  pub letters : (word : List ℕ) (kinds : List Kind) (values : LineValues) → is_plain word ≡ true →
      final bytes (Letters word kinds) values
      ≡ (if bytes_eq (front bytes) word then values_by values kinds (later_words bytes) else None)
  pub blank : (kinds : List Kind) (values : LineValues) →
      final bytes (Blank kinds) values ≡ values_by values kinds (words_of bytes)
  pub digits : (ds : List ℕ) (kinds : List Kind) (values : LineValues) → is_number ds ≡ true →
      final bytes (Digits (length ds) (digits_value 10 ds) kinds) values
      ≡ values_by values (Number ∷ kinds) ((ds ++ front bytes) ∷ later_words bytes)

-- at the end of the line
letters_nil : (word : List ℕ) (kinds : List Kind) (values : LineValues) →
    final [] (Letters word kinds) values
    ≡ (if bytes_eq [] word then values_by values kinds (later_words []) else None)
unfolding values_at_end values_by
letters_nil [] [] values = rw later-none refl
letters_nil [] (Number ∷ kinds) values = rw later-none refl
letters_nil [] (Glyph ∷ kinds) values = rw later-none refl
letters_nil [] (Word word ∷ kinds) values = rw later-none refl
letters_nil (c ∷ word) kinds values = refl

blank_nil : (kinds : List Kind) (values : LineValues) →
    final [] (Blank kinds) values ≡ values_by values kinds (words_of [])
unfolding values_at_end values_by
blank_nil [] values = rw words-none refl
blank_nil (Number ∷ kinds) values = rw words-none refl
blank_nil (Glyph ∷ kinds) values = rw words-none refl
blank_nil (Word word ∷ kinds) values = rw words-none refl

digits_nil : (ds : List ℕ) (kinds : List Kind) (values : LineValues) → is_number ds ≡ true →
    final [] (Digits (length ds) (digits_value 10 ds) kinds) values
    ≡ values_by values (Number ∷ kinds)
    ((ds ++ []) ∷ later_words [])
unfolding values_at_end values_by
digits_nil ds [] values number = rw (append-nil ds, number_of-number ds number, later-none) refl
digits_nil ds (Number ∷ kinds) values number =
    rw (append-nil ds, number_of-number ds number, later-none) refl
digits_nil ds (Glyph ∷ kinds) values number =
    rw (append-nil ds, number_of-number ds number, later-none) refl
digits_nil ds (Word word ∷ kinds) values number =
    rw (append-nil ds, number_of-number ds number, later-none) refl

-- at a space
module _ (b : ℕ) (bytes : List ℕ) (ih : Agrees bytes) (space : is_space b ≡ true) where
  front_space : front (b ∷ bytes) ≡ []
  front_space = rw space refl

  letters_space : (word : List ℕ) (kinds : List Kind) (values : LineValues) → is_plain word ≡ true →
      final (b ∷ bytes) (Letters word kinds) values
      ≡ (if bytes_eq (front (b ∷ bytes)) word then values_by values kinds (later_words (b ∷ bytes))
      else None)
  unfolding step
  letters_space [] kinds values plain =
      rw (later-space b bytes space, space) (ih.blank kinds values)
  letters_space (c ∷ word) kinds values plain =
      let apart : eqb b c ≡ false =
      ne_eqb b c (λ e. let at : b ≡ 32 = eqb-true b 32 space in let no : is_space c ≡ false =
      not-true _ (and_parts _ _ plain).0 in both_ways (is_space c) no (rw (← e) space)) in
      rw (apart, space) refl

  blank_space : (kinds : List Kind) (values : LineValues) →
      final (b ∷ bytes) (Blank kinds) values ≡ values_by values kinds (words_of (b ∷ bytes))
  unfolding step
  blank_space kinds values = rw (words-space b bytes space, space) (ih.blank kinds values)

  digits_space : (ds : List ℕ) (kinds : List Kind) (values : LineValues) → is_number ds ≡ true →
      final (b ∷ bytes) (Digits (length ds) (digits_value 10 ds) kinds) values
      ≡ values_by values (Number ∷ kinds) ((ds ++ front (b ∷ bytes)) ∷ later_words (b ∷ bytes))
  unfolding step values_by
  digits_space ds kinds values number =
      rw (front_space, append-nil ds, number_of-number ds number, later-space b bytes space, space)
      (ih.blank kinds (adding_number values (digits_value 10 ds)))

-- a glyph is one byte, so a space or the end has to come after it
glyph_alone : (b : ℕ) (f : List ℕ) (kinds : List Kind) (values : LineValues) (words : List (List ℕ))
    →
    is_glyph b ≡ true → (if bytes_eq f [] then values_by (with_glyph values b) kinds words else
    None)
    ≡ values_by values (Glyph ∷ kinds) ((b ∷ f) ∷ words)
unfolding values_by
glyph_alone b [] kinds values words glyph = rw glyph refl
glyph_alone b (c ∷ f) kinds values words glyph = refl

no_glyph : (b : ℕ) (f : List ℕ) → is_glyph b ≡ false → glyph_word (b ∷ f) ≡ None
no_glyph b [] glyph = rw glyph refl
no_glyph b (c ∷ f) glyph = refl

-- whether a digit more makes a longer number
abbrev grows : List ℕ → ℕ → Bool
grows ds b = is_digit b && nat_lt (length ds) MAX_DIGITS
    && nat_lt (digits_value 10 ds * 10 + (b - 48)) (2 ^ 32)

grows_facts : (ds : List ℕ) (b : ℕ) → grows ds b ≡ true → Grows ds b
grows_facts ds b e =
    let last = and_parts _ _ e in
    let first = and_parts _ _ last.0 in
    record {
      digit = first.0;
      few = ltb-true (length ds) MAX_DIGITS first.1;
      small =
          ltb-true (digits_value 10 ds * 10 + (b - 48)) (2 ^ 32) last.1;
    }

grows_from : (ds : List ℕ) (b : ℕ) → Grows ds b → grows ds b ≡ true
grows_from ds b g =
    and_from _ _ (and_from _ _ g.digit (lt-ltb (length ds) MAX_DIGITS g.few))
    (lt-ltb (digits_value 10 ds * 10 + (b - 48)) (2 ^ 32) g.small)

-- at a byte that is no space
module _ (b : ℕ) (bytes : List ℕ) (ih : Agrees bytes) (plain : is_space b ≡ false) where
  front_plain : front (b ∷ bytes) ≡ b ∷ front bytes
  front_plain = rw plain refl

  words_plain : words_of (b ∷ bytes) ≡ (b ∷ front bytes) ∷ later_words bytes
  words_plain = words-plain b [] bytes (rw plain refl)

  letters_same : (same : Bool) (c : ℕ) (word : List ℕ) (kinds : List Kind) (values : LineValues) →
      is_plain word ≡ true → eqb b c ≡ same → final (b ∷ bytes) (Letters (c ∷ word) kinds) values
      ≡ (if bytes_eq (b ∷ front bytes) (c ∷ word) then values_by values kinds (later_words bytes)
      else None)
  unfolding step
  letters_same true c word kinds values all e = rw e (ih.letters word kinds values all)
  letters_same false c word kinds values all e = rw e refl

  letters_plain : (word : List ℕ) (kinds : List Kind) (values : LineValues) → is_plain word ≡ true →
      final (b ∷ bytes) (Letters word kinds) values
      ≡ (if bytes_eq (front (b ∷ bytes)) word then values_by values kinds (later_words (b ∷ bytes))
      else None)
  unfolding step
  letters_plain [] kinds values all = rw plain refl
  letters_plain (c ∷ word) kinds values all =
      rw (front_plain, later-plain b bytes plain)
      (letters_same (eqb b c) c word kinds values (and_parts _ _ all).1 refl)

  -- a number goes on, or doesn't
  digits_same : (same : Bool) (ds : List ℕ) (kinds : List Kind) (values : LineValues) →
      is_number ds ≡ true → grows ds b ≡ same → option_and_then (λ s. final bytes s.next s.values)
      (option_map (digits_state kinds values) (longer_number (length ds) (digits_value 10 ds) b))
      ≡ values_by values (Number ∷ kinds) ((ds ++ b ∷ front bytes) ∷ later_words bytes)
  unfolding values_by
  digits_same true ds kinds values number e =
      let g = grows_facts ds b e in
      let h = ih.digits (ds ++ b ∷ []) kinds values (number-push ds b number g) in
      rw e (rw (
        length_push ds b,
        value-push ds b g.digit,
        append_assoc ds (b ∷ []) (front bytes),
      ) at h)
  digits_same false ds kinds values number e =
      let other : is_number (ds ++ b ∷ front bytes) ≡ false =
      false_from_ne_true _ (λ yes. both_ways (grows ds b) e
      (grows_from ds b (number-grows ds b (front bytes) yes))) in
      rw (e, number_of-other (ds ++ b ∷ front bytes) other) refl

  digits_plain : (ds : List ℕ) (kinds : List Kind) (values : LineValues) → is_number ds ≡ true →
      final (b ∷ bytes) (Digits (length ds) (digits_value 10 ds) kinds) values
      ≡ values_by values (Number ∷ kinds) ((ds ++ front (b ∷ bytes)) ∷ later_words (b ∷ bytes))
  unfolding step
  digits_plain ds kinds values number = rw (front_plain, later-plain b bytes plain, plain)
      (digits_same (grows ds b) ds kinds values number refl)

  -- the first digit of a number
  first_digit : (same : Bool) (kinds : List Kind) (values : LineValues) → is_digit b ≡ same →
      option_and_then (λ s. final bytes s.next s.values)
      (option_map (digits_state kinds values) (longer_number 0 0 b))
      ≡ values_by values (Number ∷ kinds) ((b ∷ front bytes) ∷ later_words bytes)
  unfolding values_by
  first_digit true kinds values e =
      let high : b ≤ 57 = leb-true b 57 (and_parts (nat_le 48 b) (nat_le b 57) e).1 in
      let small : 0 * 10 + (b - 48) < 2 ^ 32 = omega arith in
      let number : is_number (b ∷ []) ≡ true =
      number_from (b ∷ []) (record {
        some = omega arith;
        few = omega arith;
        all =
            and_from _ _ e refl;
        small = omega (arith, value-push [] b e);
      }) in
      let h = ih.digits (b ∷ []) kinds values number in
      rw (e, lt-ltb (0 * 10 + (b - 48)) (2 ^ 32) small) (rw (value-push [] b e) at h)
  first_digit false kinds values e =
      let other : is_number (b ∷ front bytes) ≡ false =
      false_from_ne_true _ (λ yes. both_ways (is_digit b) e
      (number-grows [] b (front bytes) yes).digit) in
      rw (e, number_of-other (b ∷ front bytes) other) refl

  first_glyph : (same : Bool) (kinds : List Kind) (values : LineValues) → is_glyph b ≡ same →
      option_and_then (λ s. final bytes s.next s.values)
      (if is_glyph b then Some (state (Letters [] kinds) (with_glyph values b)) else None)
      ≡ values_by values (Glyph ∷ kinds) ((b ∷ front bytes) ∷ later_words bytes)
  unfolding values_by
  first_glyph true kinds values e =
      rw e (ih.letters [] kinds (with_glyph values b) refl
      ∙ glyph_alone b (front bytes) kinds values
      (later_words bytes) e)
  first_glyph false kinds values e = rw (e, no_glyph b (front bytes) e) refl

  -- the first letter of a word
  first_letter : (c : ℕ) (word : List ℕ) (kinds : List Kind) (values : LineValues) →
      is_plain (c ∷ word) ≡ true →
      option_and_then (λ s. final bytes s.next s.values) (word_start (c ∷ word) kinds values b)
      ≡ (if bytes_eq (b ∷ front bytes) (c ∷ word) then values_by values kinds (later_words bytes)
      else None)
  unfolding step
  first_letter c word kinds values all =
      letters_same (eqb b c) c word kinds values (and_parts _ _ all).1 refl

  blank_plain : (kinds : List Kind) (values : LineValues) →
      final (b ∷ bytes) (Blank kinds) values ≡ values_by values kinds (words_of (b ∷ bytes))
  unfolding step values_by
  blank_plain [] values = rw (words_plain, plain) refl
  blank_plain (Number ∷ kinds) values =
      rw (words_plain, plain) (first_digit (is_digit b) kinds values refl)
  blank_plain (Glyph ∷ kinds) values =
      rw (words_plain, plain) (first_glyph (is_glyph b) kinds values refl)
  blank_plain (Word word ∷ kinds) values =
      let known = fixed word in
      rw (words_plain, plain, known.is)
      (first_letter known.first known.others kinds values known.plain)

agrees_cons : (spaced : Bool) (b : ℕ) (bytes : List ℕ) → Agrees bytes → is_space b ≡ spaced →
    Agrees (b ∷ bytes)
agrees_cons true b bytes ih e =
    record {
      letters = letters_space b bytes ih e;
      blank = blank_space b bytes ih e;
      digits =
          digits_space b bytes ih e;
    }
agrees_cons false b bytes ih e =
    record {
      letters = letters_plain b bytes ih e;
      blank = blank_plain b bytes ih e;
      digits =
          digits_plain b bytes ih e;
    }

pub agrees : (bytes : List ℕ) → Agrees bytes
agrees [] = record {
  letters = λ word kinds values _. letters_nil word kinds values;
  blank =
      blank_nil;
  digits = digits_nil;
}
agrees (b ∷ bytes) = agrees_cons (is_space b) b bytes (agrees bytes) refl

-- How far a line goes along a form: the bytes so far begin a line of the form, and one more
-- doesn't.
use Rattle.std.proofs.Common.{◌≡◌, ℕ, ◌+◌, ◌≤◌, Bool, true, false, eqb, List, [], ◌∷◌, ◌++◌, length, take, None, Some, Option, Err, refl, ap, ◌∙◌, arith, zero, suc}
use Rattle.std.specs.Prelude.{option_and_then, if◌then◌else◌, slice_index, ◌==◌}
use Rattle.std.specs.Option.{option_map_or, ok_or}
use Rattle.std.specs.List.{flat_map}
use Rattle.std.specs.Str.{bytes_eq}
use Rattle.std.proofs.lemmas.Bool.{eq-eqb}
use Rattle.std.proofs.lemmas.Option.{none-some}
use Rattle.orca_base.specs.Ascii.{space}
use Rattle.orca_script.specs.declared.forms.Kind.{Kind}
use Rattle.orca_script.specs.declared.forms.Kind.TheVariants.{Number, Glyph, Word}
use Rattle.orca_script.specs.declared.forms.Fixed.{Fixed}
use Rattle.orca_script.specs.declared.forms.Fixed.TheVariants.{Two, Seed}
use Rattle.orca_script.specs.declared.forms.Verb.{Verb}
use Rattle.orca_script.specs.LineValues.{LineValues, none, adding_number, with_glyph, letters_of}
use Rattle.orca_script.specs.Grammar.{is_space, words_of, values_by, LineForm, values_by_form}
use Rattle.orca_script.specs.Readers.{values_at_end, read_on}
use Rattle.orca_script.specs.Reading.{Next, Letters, Blank, Digits, ReadState, step, reach}
use Rattle.orca_script.proofs.Along.{final, agrees}
use Rattle.orca_script.proofs.Words.{is_plain, front, later_words, words-plain, words-none, later-plain}

-- reading gives what the bytes give in the end, or how many go along
read_on_step : (o : Option ReadState) (bytes : List ℕ) (i : ℕ) →
    ((s : ReadState) → read_on bytes (i + 1) s
    ≡ ok_or (final bytes s.next s.values) (i + 1 + reach bytes s.next s.values)) →
    option_map_or (read_on bytes (i + 1)) o (Err i)
    ≡ ok_or (option_and_then (λ s. final bytes s.next s.values) o)
    (i + option_map_or (λ s. suc (reach bytes s.next s.values)) o 0)
read_on_step None bytes i ih = ap (λ n. Err n) (omega arith)
read_on_step (Some s) bytes i ih = ih s ∙ ap (ok_or (final bytes s.next s.values)) (omega arith)

pub read_on-is : (bytes : List ℕ) (i : ℕ) (s : ReadState) →
    read_on bytes i s ≡ ok_or (final bytes s.next s.values) (i + reach bytes s.next s.values)
unfolding read_on
read_on-is [] i s = ap (ok_or (values_at_end s.next s.values)) (omega arith)
read_on-is (b ∷ bytes) i s =
    read_on_step (step s.next s.values b) bytes i (read_on-is bytes (i + 1))

-- a shortest end of a line
abbrev sample : Kind → List ℕ
sample Number = 48 ∷ []
sample Glyph = 33 ∷ []
sample (Word word) = letters_of word

abbrev samples : List Kind → List ℕ
samples kinds = flat_map (λ kind. space ∷ sample kind) kinds

abbrev ending : Next → List ℕ
ending (Letters word kinds) = word ++ samples kinds
ending (Blank []) = []
ending (Blank (kind ∷ kinds)) = sample kind ++ samples kinds
ending (Digits count value kinds) = samples kinds

abbrev Ends : List ℕ → Next → LineValues → Type 0
Ends bytes next values = (last : LineValues) × (final bytes next values ≡ Some last)

record Completes (kinds : List Kind) : Type 0 where
  gap : (values : LineValues) → Ends (samples kinds) (Letters [] kinds) values
  digits : (count value : ℕ) (values : LineValues)
      → Ends (samples kinds) (Digits count value kinds) values

letters_end : (word : List ℕ) (kinds : List Kind) (values : LineValues) →
    Ends (samples kinds) (Letters [] kinds) values →
    Ends (word ++ samples kinds) (Letters word kinds) values
unfolding step
letters_end [] kinds values ends = ends
letters_end (c ∷ word) kinds values ends = let same : eqb c c ≡ true = eq-eqb c c refl in
    rw same (letters_end word kinds values ends)

-- a word that stands for nothing
word_end : (word : Fixed) (kinds : List Kind) (values : LineValues) →
    Ends (samples kinds) (Letters [] kinds) values →
    Ends (letters_of word ++ samples kinds) (Blank (Word word ∷ kinds)) values
unfolding step
word_end Two kinds values ends = ends
word_end Seed kinds values ends = ends

completes : (kinds : List Kind) → Completes kinds
unfolding step values_at_end
completes [] = record {
  gap = λ values. (values, refl);
  digits =
      λ count value values. (adding_number values value, refl);
}
completes (Number ∷ kinds) = let ih = completes kinds in
    record {
      gap = λ values. ih.digits 1 0 values;
      digits =
          λ count value values. ih.digits 1 0 (adding_number values value);
    }
completes (Glyph ∷ kinds) = let ih = completes kinds in
    record {
      gap = λ values. ih.gap (with_glyph values 33);
      digits =
          λ count value values. ih.gap (with_glyph (adding_number values value) 33);
    }
completes (Word word ∷ kinds) = let ih = completes kinds in
    record {
      gap = λ values. word_end word kinds values (ih.gap values);
      digits = λ count value values. word_end word kinds (adding_number values value)
          (ih.gap (adding_number values value));
    }

ends : (next : Next) (values : LineValues) → Ends (ending next) next values
unfolding step values_at_end
ends (Letters word kinds) values = letters_end word kinds values ((completes kinds).gap values)
ends (Blank []) values = (values, refl)
ends (Blank (Number ∷ kinds)) values = (completes kinds).digits 1 0 values
ends (Blank (Glyph ∷ kinds)) values = (completes kinds).gap (with_glyph values 33)
ends (Blank (Word word ∷ kinds)) values = word_end word kinds values ((completes kinds).gap values)
ends (Digits count value kinds) values = (completes kinds).digits count value values

begins_step : (o : Option ReadState) (k : ℕ) (bytes : List ℕ) →
    ((s : ReadState) → k ≤ reach bytes s.next s.values →
    (rest : List ℕ) × Ends (take k bytes ++ rest) s.next s.values) →
    suc k ≤ option_map_or (λ s. suc (reach bytes s.next s.values)) o 0 →
    (rest : List ℕ) × ((last : LineValues)
    × (option_and_then (λ s. final (take k bytes ++ rest) s.next s.values) o ≡ Some last))
begins_step None k bytes ih h = absurd (omega arith)
begins_step (Some s) k bytes ih h = ih s (omega arith)

along_step : (o : Option ReadState) (k : ℕ) (bytes rest : List ℕ) (last : LineValues) →
    ((s : ReadState) → final (take k bytes ++ rest) s.next s.values ≡ Some last →
    k ≤ reach bytes s.next s.values) →
    option_and_then (λ s. final (take k bytes ++ rest) s.next s.values) o ≡ Some last →
    suc k ≤ option_map_or (λ s. suc (reach bytes s.next s.values)) o 0
along_step None k bytes rest last ih e = absurd (none-some last e)
along_step (Some s) k bytes rest last ih e = let h = ih s e in omega (arith, h)

-- the bytes so far begin a line of the form
pub begins : (k : ℕ) (bytes : List ℕ) (next : Next) (values : LineValues)
    → k ≤ reach bytes next values →
    (rest : List ℕ) × Ends (take k bytes ++ rest) next values
begins zero bytes next values h = (ending next, ends next values)
begins (suc k) [] next values h = absurd (omega arith)
begins (suc k) (b ∷ bytes) next values h =
    begins_step (step next values b) k bytes (λ s. begins k bytes s.next s.values) h

-- what begins a line of the form goes along it
pub goes_along : (k : ℕ) (bytes rest : List ℕ) (next : Next) (values last : LineValues) →
    k ≤ length bytes → final (take k bytes ++ rest) next values ≡ Some last →
    k ≤ reach bytes next values
goes_along zero bytes rest next values last h e = omega arith
goes_along (suc k) [] rest next values last h e = absurd (omega arith)
goes_along (suc k) (b ∷ bytes) rest next values last h e =
    along_step (step next values b) k bytes rest last
    (λ s. goes_along k bytes rest s.next s.values last (omega arith)) e

-- a form's word is there, and has no space
pub record IsSound (form : LineForm) : Type 0 where
  pub some : 1 ≤ length form.word
  pub plain : is_plain form.word ≡ true

-- what a line gives by a form
abbrev pub line_values : LineForm → List ℕ → Option LineValues
line_values form line = if slice_index line 0 == space then None
    else values_by_form form (words_of line)

values_spaced : (spaced : Bool) (b : ℕ) (bytes word : List ℕ) (kinds : List Kind) (verb : Verb) →
    1 ≤ length word → is_space b ≡ spaced →
    (if bytes_eq (front (b ∷ bytes)) word then values_by none kinds (later_words (b ∷ bytes))
    else None) ≡ line_values (record { word = word; kinds = kinds; verb = verb }) (b ∷ bytes)
values_spaced true b bytes [] kinds verb some e = absurd (omega arith)
values_spaced true b bytes (c ∷ word) kinds verb some e = rw e refl
values_spaced false b bytes word kinds verb some e =
    rw (e, words-plain b [] bytes (rw e refl), later-plain b bytes e) refl

final_values : (line word : List ℕ) (kinds : List Kind) (verb : Verb) → 1 ≤ length word →
    is_plain word ≡ true → final line (Letters word kinds) none
    ≡ line_values (record { word = word; kinds = kinds; verb = verb }) line
final_values [] [] kinds verb some plain = absurd (omega arith)
final_values [] (c ∷ word) kinds verb some plain = (agrees []).letters (c ∷ word) kinds none plain
    ∙ rw words-none refl
final_values (b ∷ bytes) word kinds verb some plain =
    (agrees (b ∷ bytes)).letters word kinds none plain
    ∙ values_spaced (is_space b) b bytes word kinds verb some refl

pub final-line : (form : LineForm) (line : List ℕ) → IsSound form →
    final line (Letters form.word form.kinds) none ≡ line_values form line
final-line form line sound = final_values line form.word form.kinds form.verb sound.some sound.plain

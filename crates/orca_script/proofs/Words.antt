-- The words of a line, from its first byte on.
use Rattle.std.proofs.Common.{◌≡◌, ℕ, Bool, true, false, cond, ◌&&◌, List, [], ◌∷◌, ◌++◌, length, suc, refl, ap, ◌∙◌, arith}
use Rattle.std.proofs.lemmas.Bool.{false≢true, and_parts, not_from_false, ne_eqb, cond-true}
use Rattle.std.specs.Prelude.{filter, not}
use Rattle.std.specs.List.{slice_split, list_all, onto_first}
use Rattle.orca_script.specs.declared.forms.Fixed.{Fixed}
use Rattle.orca_script.specs.declared.forms.Fixed.TheVariants.{Two, Seed}
use Rattle.orca_script.specs.LineValues.{letters_of}
use Rattle.orca_script.specs.Grammar.{is_space, is_word, words_of}

-- no byte is a space
abbrev pub is_plain : List ℕ → Bool
is_plain word = list_all (λ byte. not (is_space byte)) word

-- a word that stands for nothing has letters, and none is a space
pub record IsFixed (word : List ℕ) : Type 0 where
  pub first : ℕ
  pub others : List ℕ
  pub is : word ≡ first ∷ others
  pub plain : is_plain (first ∷ others) ≡ true

pub fixed : (f : Fixed) → IsFixed (letters_of f)
fixed Two = record { first = 50; others = []; is = refl; plain = refl }
fixed Seed = record { first = 115; others = 101 ∷ 101 ∷ 100 ∷ []; is = refl; plain = refl }

-- what stands before the first space
abbrev pub front : List ℕ → List ℕ
front [] = []
front (b ∷ bytes) = cond (is_space b) [] (b ∷ front bytes)

-- the parts after the first space
abbrev others : List ℕ → List (List ℕ)
others [] = []
others (b ∷ bytes) = cond (is_space b) (slice_split is_space bytes) (others bytes)

-- the words after the first space
unfoldable pub later_words : List ℕ → List (List ℕ)
later_words bytes = filter is_word (others bytes)

parts_cons : (spaced : Bool) (b : ℕ) (bytes : List ℕ) →
    slice_split is_space bytes ≡ front bytes ∷ others bytes →
    cond spaced ([] ∷ slice_split is_space bytes) (onto_first b (slice_split is_space bytes))
    ≡ cond spaced [] (b ∷ front bytes) ∷ cond spaced (slice_split is_space bytes) (others bytes)
parts_cons true b bytes e = refl
parts_cons false b bytes e = ap (onto_first b) e

parts : (bytes : List ℕ) → slice_split is_space bytes ≡ front bytes ∷ others bytes
parts [] = refl
parts (b ∷ bytes) = parts_cons (is_space b) b bytes (parts bytes)

-- a word at the front
plain_cons : (spaced : Bool) (b : ℕ) (word bytes : List ℕ) → (not spaced && is_plain word) ≡ true →
    slice_split is_space (word ++ bytes) ≡ (word ++ front bytes) ∷ others bytes →
    cond spaced ([] ∷ slice_split is_space (word ++ bytes))
    (onto_first b (slice_split is_space (word ++ bytes))) ≡ (b ∷ word ++ front bytes) ∷ others bytes
plain_cons true b word bytes plain e = absurd (false≢true plain)
plain_cons false b word bytes plain e = ap (onto_first b) e

parts-plain : (word bytes : List ℕ) → is_plain word ≡ true →
    slice_split is_space (word ++ bytes) ≡ (word ++ front bytes) ∷ others bytes
parts-plain [] bytes plain = parts bytes
parts-plain (b ∷ word) bytes plain =
    plain_cons (is_space b) b word bytes plain (parts-plain word bytes (and_parts _ _ plain).1)

word_kept : (b : ℕ) (word : List ℕ) → is_word (b ∷ word) ≡ true
word_kept b word = not_from_false _ (ne_eqb (suc (length word)) 0 (λ e. omega (arith, e)))

pub words-plain : (b : ℕ) (word bytes : List ℕ) → is_plain (b ∷ word) ≡ true →
    words_of (b ∷ word ++ bytes) ≡ (b ∷ word ++ front bytes) ∷ later_words bytes
unfolding words_of later_words
words-plain b word bytes plain = ap (filter is_word) (parts-plain (b ∷ word) bytes plain)
    ∙ cond-true _ _ _ (word_kept b (word ++ front bytes))

pub words-none : words_of [] ≡ []
unfolding words_of
words-none = refl

pub words-space : (b : ℕ) (bytes : List ℕ) → is_space b ≡ true →
    words_of (b ∷ bytes) ≡ words_of bytes
unfolding words_of
words-space b bytes space = rw space refl

pub later-none : later_words [] ≡ []
unfolding later_words
later-none = refl

pub later-space : (b : ℕ) (bytes : List ℕ) → is_space b ≡ true →
    later_words (b ∷ bytes) ≡ words_of bytes
unfolding words_of later_words
later-space b bytes space = rw space refl

pub later-plain : (b : ℕ) (bytes : List ℕ) → is_space b ≡ false →
    later_words (b ∷ bytes) ≡ later_words bytes
unfolding later_words
later-plain b bytes plain = rw plain refl

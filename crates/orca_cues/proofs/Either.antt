-- A script of format 2 that is read as one of either format.
use Rattle.std.proofs.Common.{◌≡◌, ℕ, zero, suc, Bool, true, false, Some, None, Ok, Err, List, [], ◌∷◌, ◌++◌, length, take, get_or, refl, sym, ◌∙◌, arith, inl, inr, ◌⊎◌}
use Rattle.std.specs.Prelude.{Option, Result, IsOk, ◌==◌, ◌-◌, if◌then◌else◌, codes, slice_index}
use Rattle.std.specs.List.{slice_split, join_with_byte}
use Rattle.std.specs.Option.{option_or}
use Rattle.std.specs.Result.{result_map_both}
use Rattle.std.specs.Str.{bytes_eq}
use Rattle.std.specs.Str.Lines.{lines, lines_of_parts, strip_carriage_return}
use Rattle.std.proofs.lemmas.Slice.Eq.{bytes_eq-Decides}
use Rattle.std.proofs.lemmas.List.Splits.{join_with_byte-slice_split}
use Rattle.orca_script.specs.declared.refusal.ScriptRefusal.{ScriptRefusal}
use Rattle.orca_script.specs.Format2.{header_reading, header_seed, seed_of}
use Rattle.orca_script.specs.Grammar.{is_space, words_of}
use Rattle.orca_script.proofs.Words.{front, later_words, words-none, words-plain}
use Rattle.orca_cues.specs.Scripts.{any_script_of, cues_of, fault_read, first_fault, is_format_2, script_by, unless_faulty}
use Rattle.orca_cues.specs.declared.fault.ScriptFault.{ScriptFault}
use Rattle.orca_cues.specs.declared.source.Cue.{Cue}
use Rattle.orca_cues.proofs.LineCounts.{last_line}
use Rattle.orca_cues.proofs.Printed.{header_gives}

-- ---- the first byte of the first line

abbrev Marked : List ℕ → Type 0
Marked bytes = slice_index bytes 0 ≡ 33

take-marked : (n : ℕ) (bytes : List ℕ) → Marked (take n bytes) → Marked bytes
take-marked zero bytes is = absurd cc
take-marked (suc n) [] is = is
take-marked (suc n) (byte ∷ bytes) is = is

stripped-marked : (test : Bool) (line : List ℕ)
    → Marked (if test then take (length line - 1) line else line) → Marked line
stripped-marked true line is = take-marked (length line - 1) line is
stripped-marked false line is = is

front-marked : (xs ys : List ℕ) → Marked xs → Marked (xs ++ ys)
front-marked [] ys is = absurd cc
front-marked (x ∷ xs) ys is = is

-- a single part is a line where it has a byte
single-marked : (part line : List ℕ) (rest : List (List ℕ))
    → lines_of_parts (part ∷ []) ≡ line ∷ rest → Marked line → Marked part
single-marked [] line rest is marked = absurd cc
single-marked (byte ∷ part) line rest is marked =
    let same : line ≡ byte ∷ part = grind (arith, last_line byte part) in
    rw same at marked

parts-marked : (parts : List (List ℕ)) (line : List ℕ) (rest : List (List ℕ))
    → lines_of_parts parts ≡ line ∷ rest → Marked line → Marked (join_with_byte 10 parts)
parts-marked [] line rest is marked = absurd cc
parts-marked (part ∷ []) line rest is marked = single-marked part line rest is marked
parts-marked (part ∷ next ∷ more) line rest is marked =
    let first : strip_carriage_return part ≡ line = grind (arith, is) in
    front-marked part _
    (stripped-marked (get_or part (length part - 1) 0 == 13) part (rw first marked))

line-marked : (text line : List ℕ) (rest : List (List ℕ)) → lines text ≡ line ∷ rest
    → Marked line → Marked text
line-marked text line rest is marked =
    let parts = slice_split (λ byte. byte == 10) text in
    rw (join_with_byte-slice_split 10 text) at (parts-marked parts line rest is marked)

-- ---- the first line of format 2 begins with the mark

name-marked : (name : List ℕ) → bytes_eq name (codes "!orca") ≡ true → Marked name
name-marked name is =
    let same : name ≡ codes "!orca" = grind (arith, bytes_eq-Decides) in
    rw same refl

first-marked : (name : List ℕ) (others : List (List ℕ)) (seed : ℕ)
    → seed_of (name ∷ others) ≡ Some seed → Marked name
first-marked name [] seed is = absurd cc
first-marked name (format ∷ []) seed is = absurd cc
first-marked name (format ∷ what ∷ []) seed is = absurd cc
first-marked name (format ∷ what ∷ number ∷ []) seed is = grind (arith, name-marked)
first-marked name (format ∷ what ∷ number ∷ more ∷ others) seed is = absurd cc

words-marked : (spaced : Bool) (byte : ℕ) (bytes : List ℕ) (seed : ℕ) → is_space byte ≡ spaced
    → (if spaced then None else seed_of (words_of (byte ∷ bytes))) ≡ Some seed
    → Marked (byte ∷ bytes)
words-marked true byte bytes seed test is = absurd cc
words-marked false byte bytes seed test is =
    first-marked (byte ∷ front bytes) (later_words bytes) seed
    (rw (words-plain byte [] bytes (rw test refl)) at is)

header-marked : (line : List ℕ) (seed : ℕ) → header_seed line ≡ Some seed → Marked line
unfolding header_seed
header-marked [] seed is = let none = rw words-none at is in absurd cc
header-marked (byte ∷ bytes) seed is = words-marked (is_space byte) byte bytes seed refl is

-- ---- a script without a fault

-- a reading without a fault
faultless_or : (a b : Option ScriptFault) → option_or a b ≡ None → a ≡ None
faultless_or None b is = refl
faultless_or (Some fault) b is = absurd cc

header_read : (r : Result ℕ ScriptRefusal)
    → fault_read 1 (result_map_both (λ seed. None) (λ refusal. refusal) r) ≡ None
    → (seed : ℕ) × (r ≡ Ok seed)
header_read (Ok seed) is = (seed, refl)
header_read (Err refusal) is = absurd cc

lines-marked : (text : List ℕ) (left : List (List ℕ)) → lines text ≡ left
    → first_fault true 1 left ≡ None → (left ≡ []) ⊎ Marked text
unfolding first_fault
lines-marked text [] is none = inl refl
lines-marked text (line ∷ rest) is none =
    let read = header_read (header_reading line) (faultless_or _ _ none) in
    let marked = header-marked line read.0 (header_gives line read.0 read.1) in
    inr (line-marked text line rest is marked)

-- without a line there is nothing to read
no_lines : (format_2 : Bool) (left : List (List ℕ)) → left ≡ []
    → unless_faulty (first_fault format_2 1 left) (cues_of format_2 1 left) ≡ Ok []
unfolding first_fault cues_of
no_lines format_2 left is = rw is refl

faultless_of : (fault : Option ScriptFault) (cues : List Cue) → IsOk (unless_faulty fault cues)
    → fault ≡ None
faultless_of None cues ok = refl
faultless_of (Some fault) cues ok = absurd cc

pub script2_any : (text : List ℕ) → IsOk (script_by true text)
    → any_script_of text ≡ script_by true text
script2_any text ok =
    elim (lines-marked text (lines text) refl (faultless_of _ _ ok)) [
      | inl none ↦
          no_lines (is_format_2 text) (lines text) none ∙ sym (no_lines true (lines text) none)
      | inr marked ↦ rw marked refl
    ]

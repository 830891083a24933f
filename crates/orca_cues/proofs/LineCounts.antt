-- How many lines a text has, and how long they are.
use Rattle.std.proofs.Common.{◌≡◌, ℕ, ◌-◌, ◌≤◌, Bool, true, false, List, [], ◌∷◌, length, take, get_or, refl, ap, arith, length-append}
use Rattle.std.specs.Prelude.{All, if◌then◌else◌, ◌==◌}
use Rattle.std.specs.List.{slice_split, join_with_byte}
use Rattle.std.specs.Str.Lines.{lines, lines_of_parts, strip_carriage_return}
use Rattle.std.proofs.lemmas.Bool.{ne_eqb}
use Rattle.std.proofs.lemmas.List.Elements.{All-cons}
use Rattle.std.proofs.lemmas.List.Splits.{join_with_byte-slice_split}
use Rattle.std.proofs.lemmas.List.{length-take-le}

abbrev joined : List (List ℕ) → List ℕ
joined parts = join_with_byte 10 parts

stripped : (test : Bool) (line : List ℕ) →
    length (if test then take (length line - 1) line else line) ≤ length line
stripped true line =
    let short : length line - 1 ≤ length line = omega arith in
    let taken = length-take-le (length line - 1) line short in
    omega (arith, taken)
stripped false line = omega arith

length-strip_carriage_return : (line : List ℕ) → length (strip_carriage_return line) ≤ length line
length-strip_carriage_return line = stripped (get_or line (length line - 1) 0 == 13) line

-- a last part with a byte is a line
pub last_line : (byte : ℕ) (line : List ℕ) →
    lines_of_parts ((byte ∷ line) ∷ []) ≡ (byte ∷ line) ∷ []
last_line byte line =
    let some : (length (byte ∷ line) == 0) ≡ false =
    ne_eqb (length (byte ∷ line)) 0 (λ same. omega (arith, same)) in
    rw some refl

last_few : (line : List ℕ) → length (lines_of_parts (line ∷ [])) ≤ length line
last_few [] = omega arith
last_few (byte ∷ line) = rw last_line (omega arith)

few_of_parts : (parts : List (List ℕ)) → length (lines_of_parts parts) ≤ length (joined parts)
few_of_parts [] = omega arith
few_of_parts (line ∷ []) = last_few line
few_of_parts (line ∷ next ∷ more) =
    omega (arith, few_of_parts (next ∷ more), length-append line (10 ∷ joined (next ∷ more)))

-- each of some lines has at most n bytes
abbrev pub Short : ℕ → List (List ℕ) → Type 0
Short n = All (λ line. length line ≤ n)

short_more : (n m : ℕ) (left : List (List ℕ)) → n ≤ m → Short n left → Short m left
short_more n m left more short = λ k d below. let h = short k d below in omega (arith, h)

last_short : (line : List ℕ) → Short (length line) (lines_of_parts (line ∷ []))
last_short [] = λ k d below. absurd (omega arith)
last_short (byte ∷ line) =
    rw last_line (All-cons (λ l. length l ≤ length (byte ∷ line)) (byte ∷ line) [] (omega arith)
    (λ k d below. absurd (omega arith)))

short_of_parts : (parts : List (List ℕ)) → Short (length (joined parts)) (lines_of_parts parts)
short_of_parts [] = λ k d below. absurd (omega arith)
short_of_parts (line ∷ []) = last_short line
short_of_parts (line ∷ next ∷ more) =
    let total = length-append line (10 ∷ joined (next ∷ more)) in
    let first = length-strip_carriage_return line in
    let n = length (joined (line ∷ next ∷ more)) in
    All-cons (λ l. length l ≤ n) (strip_carriage_return line) (lines_of_parts (next ∷ more))
    (omega (arith, total, first))
    (short_more (length (joined (next ∷ more))) n (lines_of_parts (next ∷ more))
    (omega (arith, total)) (short_of_parts (next ∷ more)))

joined_text : (text : List ℕ) → joined (slice_split (λ byte. byte == 10) text) ≡ text
joined_text text = join_with_byte-slice_split 10 text

-- a text has no more lines than bytes, and none is longer than the text
pub lines_few : (text : List ℕ) → length (lines text) ≤ length text
lines_few text =
    let few = few_of_parts (slice_split (λ byte. byte == 10) text) in
    omega (arith, few, ap length (joined_text text))

pub lines_short : (text : List ℕ) → Short (length text) (lines text)
lines_short text =
    short_more (length (joined (slice_split (λ byte. byte == 10) text))) (length text) (lines text)
    (omega (arith, ap length (joined_text text)))
    (short_of_parts (slice_split (λ byte. byte == 10) text))

-- The first line of a text.
use Rattle.std.proofs.Common.{◌≡◌, ℕ, ◌≤◌, Bool, true, false, cond, eqb, List, [], ◌∷◌, ◌++◌, length, take, drop, ◌+◌, Some, None, refl, ap, ◌∙◌, arith}
use Rattle.std.specs.List.{slice_split, onto_first, position, position_or_len, before_first, after_first, All}
use Rattle.std.proofs.lemmas.List.Sums.{fails_before_first}
use Rattle.std.proofs.lemmas.Bool.{ltb-true, ltb-false, ne_eqb}
use Rattle.std.proofs.lemmas.Option.{cond_some}
use Rattle.std.specs.Str.Lines.{lines, lines_of_parts, strip_carriage_return}
use Rattle.std.proofs.lemmas.List.Splits.{slice_split_at, slice_split_none, slice_split_first}

abbrev parts : List ℕ → List (List ℕ)
parts bytes = slice_split (λ b. eqb b 10) bytes

-- there is always a first part
record HasFirst (ps : List (List ℕ)) : Type 0 where
  first : List ℕ
  others : List (List ℕ)
  same : ps ≡ first ∷ others

first-onto : (c : ℕ) (ps : List (List ℕ)) → HasFirst (onto_first c ps)
first-onto c [] = record { first = c ∷ []; others = []; same = refl }
first-onto c (p ∷ ps) = record { first = c ∷ p; others = ps; same = refl }

first-cond : (b : Bool) (c : ℕ) (ps : List (List ℕ)) → HasFirst (cond b ([] ∷ ps) (onto_first c ps))
first-cond true c ps = record { first = []; others = ps; same = refl }
first-cond false c ps = first-onto c ps

parts-first : (bytes : List ℕ) → HasFirst (parts bytes)
parts-first [] = record { first = []; others = []; same = refl }
parts-first (c ∷ bytes) = first-cond (eqb c 10) c (parts bytes)

lines_of_parts-more : (x : List ℕ) (ps : List (List ℕ)) → HasFirst ps →
    lines_of_parts (x ∷ ps) ≡ strip_carriage_return x ∷ lines_of_parts ps
lines_of_parts-more x ps h = rw h.same refl

-- a line that a line feed ends
pub lines-ended : (line rest : List ℕ) → All (λ b. eqb b 10 ≡ false) line →
    lines (line ++ 10 ∷ rest) ≡ strip_carriage_return line ∷ lines rest
lines-ended line rest plain =
    ap lines_of_parts (slice_split_at (λ b. eqb b 10) line 10 rest plain refl)
    ∙ lines_of_parts-more line (parts rest) (parts-first rest)

-- the first line feed ends the first line
pub lines-found : (text : List ℕ) (end : ℕ) → position (λ b. eqb b 10) text ≡ Some end →
    lines text ≡ strip_carriage_return (take end text) ∷ lines (drop (end + 1) text)
lines-found text end found =
    let both = cond_some _ _ _ found in
    let first = slice_split_first (λ b. eqb b 10) text 0 (ltb-true _ _ both.0) in
    let front = before_first (λ b. eqb b 10) text in
    let back = after_first (λ b. eqb b 10) text in
    rw (← both.1) (ap lines_of_parts first ∙ lines_of_parts-more front (parts back)
    (parts-first back))

none_false : (b : Bool) (n : ℕ) → cond b (Some n) None ≡ None → b ≡ false
none_false true n e = cc
none_false false n e = refl

-- without one, the text is one line
pub lines-last : (text : List ℕ) → position (λ b. eqb b 10) text ≡ None → 1 ≤ length text →
    lines text ≡ text ∷ []
lines-last text none some =
    let all : length text ≤ position_or_len (λ b. eqb b 10) text =
    ltb-false _ _ (none_false _ _ none) in
    let one : parts text ≡ text ∷ [] =
    slice_split_none (λ b. eqb b 10) text
    (λ k d h. fails_before_first (λ b. eqb b 10) text k d (omega arith)) in
    let kept : eqb (length text) 0 ≡ false = ne_eqb (length text) 0 (λ e. omega (arith, e)) in
    ap lines_of_parts one ∙ rw kept refl

-- A script that is checked line by line.
use Rattle.std.proofs.Common.{below_more, ◌≡◌, ℕ, suc, ◌+◌, ◌-◌, ◌≤◌, ◌<◌, Bool, true, Some, None, Ok, Err, List, [], ◌∷◌, length, drop, get_or, refl, sym, subst, inl, inr, ◌∙◌, arith, add-one}
use Rattle.std.specs.Prelude.{Option, Result, ◌↔◌, IsTrue, IfOk}
use Rattle.std.specs.Str.Lines.{lines}
use Rattle.std.proofs.Math.Seq.{drop-cons}
use Rattle.std.proofs.lemmas.List.Elements.{All-tail}
use Rattle.orca_base.specs.declared.limits.TheConstants.{MAX_FILE_BYTES}
use Rattle.orca_script.specs.Format2.{IsHeader, IsLine2, LeavesAt, header_seed, line_asks}
use Rattle.orca_script.specs.Grammar.{has_no_command}
use Rattle.orca_script.specs.declared.format_2.Line.{Line}
use Rattle.orca_script.specs.declared.refusal.ScriptRefusal.{ScriptRefusal}
use Rattle.orca_cues.specs.Readable.{AreReadable}
use Rattle.orca_cues.specs.Scripts.{first_fault, cues_of, is_format_2, reading_at, script_by, seed_in, IsLineAt, IsFaultBy}
use Rattle.orca_cues.proofs.LineCounts.{lines_few, lines_short}

-- a line of format 2 that is read is one of the grammar
pub read_by_grammar : (line : List ℕ) (r : Result (Option Line) ScriptRefusal) →
    ((asked : Line) → (r ≡ Ok (Some asked)) ↔ (line_asks line ≡ Some asked)) →
    ((r ≡ Ok None) ↔ IsTrue (has_no_command line)) → IfOk r (λ found. IsLine2 line)
read_by_grammar line (Ok None) asked nothing = inl (nothing.0 refl)
read_by_grammar line (Ok (Some given)) asked nothing = inr (given, (asked given).0 refl)
read_by_grammar line (Err refusal) asked nothing = tt

-- the seed of the first line
pub first_short : (text line : List ℕ) (rest : List (List ℕ)) → lines text ≡ line ∷ rest →
    length text ≤ MAX_FILE_BYTES → length line ≤ MAX_FILE_BYTES
first_short text line rest e short =
    let some : 0 < length (lines text) = rw e (omega arith) in
    let h : length (get_or (lines text) 0 []) ≤ length text = lines_short text 0 [] some in
    omega (arith, short, rw e at h)

pub seed_of_first : (text line : List ℕ) (rest : List (List ℕ)) (seed : Option ℕ) →
    is_format_2 text ≡ true → lines text ≡ line ∷ rest → header_seed line ≡ seed →
    seed ≡ seed_in text
seed_of_first text line rest seed two e found = rw (two, e) (sym found)

none_left : (o : Option ℕ) → ((seed : ℕ) → o ≡ Some seed → ⊥) → o ≡ None
none_left None never = refl
none_left (Some seed) never = absurd (never seed refl)

pub no_seed : (line : List ℕ) → (IsHeader line → ⊥) → header_seed line ≡ None
no_seed line never = none_left (header_seed line) (λ seed e. never (seed, e))

pub readable-start : (text : List ℕ) → length text ≤ MAX_FILE_BYTES → AreReadable 0 (lines text)
readable-start text short = record {
  few = omega (arith, short, lines_few text);
  short = λ k d below. let h = lines_short text k d below in omega (arith, h, short);
}

-- the first lines of a text, so many of them, are read, and none is refused
pub record Checks (format_2 : Bool) (text : List ℕ) (number : ℕ) (left : List (List ℕ)) : Type 0 where
  pub readable : AreReadable number left
  pub counts : number + length left ≡ length (lines text)
  pub rest : left ≡ drop number (lines text)
  pub faultless : first_fault format_2 1 (lines text)
      ≡ first_fault format_2 (number + 1) left
  pub good : (k : ℕ) → k < number →
      IsLineAt format_2 (k + 1) (get_or (lines text) k [])

pub checks-start : (format_2 : Bool) (text : List ℕ) → length text ≤ MAX_FILE_BYTES →
    Checks format_2 text 0 (lines text)
checks-start format_2 text short = record {
  readable = readable-start text short;
  counts = omega arith;
  rest = refl;
  faultless = refl;
  good = λ k below. absurd (omega (arith, below));
}

pub readable-more : (number : ℕ) (line : List ℕ) (left : List (List ℕ)) →
    AreReadable number (line ∷ left) → AreReadable (number + 1) left
readable-more number line left readable = record {
  few = omega (arith, readable.few);
  short = All-tail (λ l. length l ≤ MAX_FILE_BYTES) line left readable.short;
}

module _ (format_2 : Bool) (text : List ℕ) (number : ℕ) (line : List ℕ) (left : List (List ℕ))
    (checks : Checks format_2 text number (line ∷ left)) where
  -- the next line of the text
  next_here : number < length (lines text)
  next_here = omega (arith, checks.counts)

  cut : line ∷ left ≡ get_or (lines text) number [] ∷ drop (suc number) (lines text)
  cut = checks.rest ∙ drop-cons (lines text) number [] next_here

  pub next_line : get_or (lines text) number [] ≡ line
  next_line = let e = cut in cc

  pub checks-more : (found : Option Line) →
      reading_at format_2 (number + 1) line ≡ Ok found →
      IsLineAt format_2 (number + 1) line → Checks format_2 text (number + 1) left
  unfolding first_fault
  checks-more found read is = record {
    readable = readable-more number line left checks.readable;
    counts = omega (arith, checks.counts);
    rest = let e = cut in rw add-one (cc);
    faultless = checks.faultless ∙ rw read refl;
    good = below_more (λ k. IsLineAt format_2 (k + 1) (get_or (lines text) k [])) number
        checks.good (rw next_line is);
  }

  -- a refused line is where the text stops being a script
  fault_here : (refusal : ScriptRefusal) →
      reading_at format_2 (number + 1) line ≡ Err refusal →
      first_fault format_2 1 (lines text)
      ≡ Some (record { line = number + 1; column = refusal.column })
  unfolding first_fault
  fault_here refusal read = checks.faultless ∙ rw read refl

  pub refused_script : (refusal : ScriptRefusal) →
      reading_at format_2 (number + 1) line ≡ Err refusal →
      script_by format_2 text ≡ Err (record { line = number + 1; column = refusal.column })
  refused_script refusal read = rw (fault_here refusal read) refl

  pub refused_grammar : (column : ℕ) →
      LeavesAt (IsLineAt format_2 (number + 1)) line column →
      IsFaultBy format_2 text (record { line = number + 1; column = column })
  refused_grammar column refused = record {
    counted = omega arith;
    present = omega (arith, next_here);
    before = λ k some below.
        let at : k - 1 + 1 ≡ k = omega (arith, some) in
        subst (λ n. IsLineAt format_2 n (get_or (lines text) (k - 1) [])) at
        (checks.good (k - 1) (omega (arith, some, below)));
    here = let at : number + 1 - 1 ≡ number = omega arith in rw (at, next_line) refused;
  }

-- at the end of the text no line is refused
pub checked_script : (format_2 : Bool) (text : List ℕ) (number : ℕ) →
    Checks format_2 text number [] →
    script_by format_2 text ≡ Ok (cues_of format_2 1 (lines text))
unfolding first_fault
checked_script format_2 text number checks = rw checks.faultless refl

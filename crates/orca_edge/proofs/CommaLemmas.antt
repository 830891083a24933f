-- Where a name is cut: at its last comma.
use Rattle.std.proofs.Common.{◌≡◌, ◌≢◌, ◌∙◌, ℕ, zero, suc, ◌+◌, ◌-◌, ◌<◌, List, length, take, drop, Some, None, refl, sym, ap, arith, length-drop, get_or-drop, MatchOption, Bor, inl, inr}
use Rattle.std.specs.Prelude.{Option, slice_index}
use Rattle.std.specs.Option.{option_map}
use Rattle.std.specs.Path.{rfind_below, rsplit_once}
use Rattle.std.specs.Str.Pattern.{RFindsChar, SplitsAroundMatch}
use Rattle.std.proofs.lemmas.Bool.{cond-true, cond-false, eq-eqb, ne_eqb}
use Rattle.std.proofs.lemmas.Bool.Decides.{eqb_tells}
use Rattle.std.proofs.lemmas.Str.{len_utf8_ascii}
use Rattle.std.proofs.lemmas.Str.Pattern.{NoCharPasses-char}

-- none of the first n bytes is this one
none_below : (byte : ℕ) (text : List ℕ) (n : ℕ)
    → ((i : ℕ) → i < n → slice_index text i ≢ byte) → rfind_below byte text n ≡ None
none_below byte text zero none = refl
none_below byte text (suc n) none =
    cond-false _ _ _ (ne_eqb _ byte (none n (omega arith)))
    ∙ none_below byte text n (λ i below. none i (omega arith))

-- the one at k is the last of them
last_below : (byte : ℕ) (text : List ℕ) (k n : ℕ) → k < n → slice_index text k ≡ byte
    → ((i : ℕ) → k < i → i < n → slice_index text i ≢ byte) → rfind_below byte text n ≡ Some k
last_below byte text k zero inside here none = absurd (omega arith)
last_below byte text k (suc n) inside here none = elim (eqb_tells n k) [
  | inl same ↦
      cond-true _ _ _ (eq-eqb _ byte (ap (λ j. slice_index text j) same.1 ∙ here))
      ∙ ap (λ j. Some j) same.1
  | inr apart ↦
      cond-false _ _ _ (ne_eqb _ byte (none n (omega (arith, apart.1)) (omega arith)))
      ∙ last_below byte text k n (omega (arith, apart.1)) here (λ i above below.
      none i above (omega arith))
]

-- what `rsplit_once` answers at a comma
pub cut_at_comma : (text : List ℕ) (gave : Option (Bor (List ℕ) × Bor (List ℕ)))
    → MatchOption gave (RFindsChar 44 text None)
    (λ cut. SplitsAroundMatch (RFindsChar 44) text cut.0.now cut.1.now)
    → option_map (λ cut. (cut.0.now, cut.1.now)) gave ≡ rsplit_once 44 text
unfolding rsplit_once
cut_at_comma text None none =
    sym (ap (option_map (λ i. (take i text, drop (i + 1) text))) (none_below 44 text (length text)
    (λ i below. NoCharPasses-char 44 text i none (omega arith) below)))
cut_at_comma text (Some cut) (i, j, last, front, back, before, long, rest) =
    let next : j ≡ i + 1 = omega (arith, last.1.ends, len_utf8_ascii 44 (omega arith)) in
    let later : (k : ℕ) → i < k → k < length text → slice_index text k ≢ 44 = λ k above below at.
    NoCharPasses-char 44 (drop j text) (k - j) last.0 (omega arith)
    (omega (arith, length-drop j text)) (get_or-drop j text (k - j) 0
    ∙ ap (λ n. slice_index text n) (omega (arith, next, above)) ∙ at) in
    let found : rfind_below 44 text (length text) ≡ Some i =
    last_below 44 text i (length text) (omega (arith, rest, next))
    (last.1.byte (omega arith)) later in
    let ends : cut.1.now ≡ drop (i + 1) text = back ∙ ap (λ n. drop n text) next in
    rw (found, front, ends) refl

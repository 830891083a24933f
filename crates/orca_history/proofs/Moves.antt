-- Entries that move to the tail and back.
use Rattle.std.proofs.Common.{◌≡◌, ℕ, suc, ◌+◌, ◌<◌, ◌≤◌, true, false, List, [], ◌∷◌, ◌++◌, length, take, drop, get_or, refl, arith, ap, sym, ◌∙◌, add-one, drop-cons, append-nil, length-append, length-drop}
use Rattle.std.specs.Prelude.{◌&&◌, Bool, not, take_while}
use Rattle.std.specs.List.{list_any}
use Rattle.std.proofs.Math.Seq.{get_or-append_seam, take-append_seam}
use Rattle.std.proofs.lemmas.List.{drop-drop, get_or-drop, get_or-take, length-take-le, take-take, take_more}
use Rattle.std.proofs.lemmas.List.Elements.{filter-append}
use Rattle.std.proofs.lemmas.List.Sums.{take_while-cons}
use Rattle.orca_base.specs.declared.command.Entry.{Entry}
use Rattle.orca_base.specs.Histories.{done_of, edits_grid, is_done, is_edit, is_size_used, sets_size}

-- an entry of a list, and those after it
pub drop-entry : (es : List Entry) (m n : ℕ) (e : Entry) → m + 1 ≡ n → n ≤ length es
    → get_or es m e ≡ e → drop m es ≡ e ∷ drop n es
drop-entry es m n e next within is =
    drop-cons es m e (omega arith)
    ∙ (ap (λ (x : Entry). x ∷ drop (suc m) es) is
    ∙ ap (λ (k : ℕ). e ∷ drop k es) (sym (add-one m) ∙ next))

-- what was done with an entry more
pub done-push : (es : List Entry) (e : Entry) → is_done e ≡ true
    → length (done_of (es ++ e ∷ [])) ≡ length (done_of es) + 1
done-push es e done =
    ap length (filter-append is_done es (e ∷ []))
    ∙ rw done (length-append (done_of es) (e ∷ []))

pub hush-push : (es : List Entry) (e : Entry) → is_done e ≡ false
    → length (done_of (es ++ e ∷ [])) ≡ length (done_of es)
hush-push es e hush =
    ap length (filter-append is_done es (e ∷ []))
    ∙ rw hush (ap length (append-nil (done_of es)))

-- an entry that comes back
pub taken-more : (es : List Entry) (i : ℕ) (e : Entry) (rest : List Entry)
    → drop i es ≡ e ∷ rest → take (i + 1) es ≡ take i es ++ e ∷ []
taken-more es i e rest is =
    let long : length (drop i es) ≡ suc (length rest) = ap length is in
    let here : get_or es i e ≡ e =
    sym (get_or-drop i es 0 e ∙ ap (λ (k : ℕ). get_or es k e) (omega arith))
    ∙ ap (λ (l : List Entry). get_or l 0 e) is in
    take_more es i e (omega (arith, long, length-drop i es))
    ∙ ap (λ (x : Entry). take i es ++ x ∷ []) here

pub left-more : (es : List Entry) (i : ℕ) (e : Entry) (rest : List Entry)
    → drop i es ≡ e ∷ rest → drop (i + 1) es ≡ rest
left-more es i e rest is =
    sym (drop-drop 1 i es) ∙ ap (λ (l : List Entry). drop 1 l) is

-- ---- the group

abbrev pub frames_from : List Entry → ℕ
frames_from entries = length (take_while (λ e. not (is_edit e)) entries)

-- an entry that is no edit belongs to the group
pub group-more : (es : List Entry) (i : ℕ) (e : Entry) → i < length es → get_or es i e ≡ e
    → is_edit e ≡ false → frames_from (drop i es) ≡ 1 + frames_from (drop (i + 1) es)
group-more es i e within is other =
    ap frames_from (drop-entry es i (i + 1) e refl (omega arith) is)
    ∙ (ap length (take_while-cons (λ (x : Entry). not (is_edit x)) e (drop (i + 1) es))
    ∙ rw other (omega arith))

-- an edit doesn't
pub group-end : (es : List Entry) (i : ℕ) (e : Entry) → i < length es → get_or es i e ≡ e
    → is_edit e ≡ true → frames_from (drop i es) ≡ 0
group-end es i e within is edit =
    ap frames_from (drop-entry es i (i + 1) e refl (omega arith) is)
    ∙ (ap length (take_while-cons (λ (x : Entry). not (is_edit x)) e (drop (i + 1) es))
    ∙ rw edit refl)

-- ---- a step of the loop that cuts

-- the last of the first entries was popped: what is left, and what was cut off so far
pub record Pops (all less : List Entry) (n m : ℕ) (e : Entry) : Type 0 where
  pub left : less ≡ take m all
  pub cut : drop m all ≡ e ∷ drop n all

pub pops : (all first less : List Entry) (n m : ℕ) (e : Entry) → m + 1 ≡ n → n ≤ length all
    → first ≡ take n all → first ≡ less ++ e ∷ [] → Pops all less n m e
pops all first less n m e next within is popped =
    let same : less ++ e ∷ [] ≡ take n all = sym popped ∙ is in
    let long : length less ≡ m =
    omega (arith, ap length same, length-append less (e ∷ []), length-take-le n all within) in
    let here : get_or all m e ≡ e =
    sym (get_or-take n all m e (omega arith)) ∙ (sym (ap (λ (es : List Entry). get_or es m e) same)
    ∙ rw (← long) (get_or-append_seam less e [] e)) in
    record {
      left = rw (← long) (sym (take-append_seam less (e ∷ []))
          ∙ (ap (take (length less)) same ∙ take-take (length less) n all (omega arith)));
      cut = drop-entry all m n e next within here;
    }

-- ---- a change of size

-- whether its size is used, by what stands after it
used-at : (es : List Entry) (m : ℕ) (e : Entry) (b : Bool) → m < length es → e ≡ get_or es m e
    → b ≡ sets_size e
    → is_size_used (drop m es) ≡ (b && list_any edits_grid (drop (m + 1) es))
used-at es m e b below is sets =
    ap is_size_used (drop-entry es m (m + 1) e refl (omega arith) (sym is))
    ∙ ap (λ (x : Bool). x && list_any edits_grid (drop (m + 1) es)) (sym sets)

pub used-by : (es : List Entry) (m : ℕ) (e : Entry) (b used : Bool) → m < length es
    → e ≡ get_or es m e → b ≡ sets_size e → b ≡ true
    → used ≡ list_any edits_grid (drop (m + 1) es) → used ≡ is_size_used (drop m es)
used-by es m e b used below is sets stands found =
    found
    ∙ sym (used-at es m e b below is sets
    ∙ ap (λ (x : Bool). x && list_any edits_grid (drop (m + 1) es)) stands)

pub unused-by : (es : List Entry) (m : ℕ) (e : Entry) (b : Bool) → m < length es
    → e ≡ get_or es m e → b ≡ sets_size e → b ≡ false → b ≡ is_size_used (drop m es)
unused-by es m e b below is sets fails =
    fails
    ∙ sym (used-at es m e b below is sets
    ∙ ap (λ (x : Bool). x && list_any edits_grid (drop (m + 1) es)) fails)

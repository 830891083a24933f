-- What jumps cut off, and what a redo brings back.
use Rattle.std.proofs.Common.{◌≡◌, true≢false, ℕ, suc, ◌+◌, ◌-◌, Bool, true, false, not, List, [], ◌∷◌, ◌++◌, length, take, drop, Option, Some, None, refl, arith, ap, sym, ◌∙◌, length-append}
use Rattle.std.specs.Prelude.{if◌then◌else◌, min, take_while}
use Rattle.std.specs.List.{prefix_len}
use Rattle.std.specs.Option.{option_map_or}
use Rattle.std.proofs.Math.Path.{subst}
use Rattle.std.proofs.lemmas.Option.{none-some, same_Some}
use Rattle.std.proofs.lemmas.List.{length-take-le, take-append-drop, take-append-le, take_all}
use Rattle.orca_base.specs.declared.command.Command.TheVariants.{Undo, Redo}
use Rattle.orca_base.specs.declared.command.Entry.{Entry}
use Rattle.orca_base.specs.declared.command.Entry.TheVariants.{Fill, Put, Move, Resize, Reset, Frame, Hush}
use Rattle.orca_base.specs.Histories.{done_of, group_of, is_edit, last_edit}
use Rattle.orca_edit.specs.Editing.{AllFit}
use Rattle.orca_edit.specs.Folding.{begins_anew}
use Rattle.orca_edit.specs.Obeying.{MachineState, history_redone, jump_to, obey, piece_of, redo, rule_against}
use Rattle.orca_edit.specs.Pieces.{Piece, apply, fold_entries, opened_piece, silence}
use Rattle.orca_edit.proofs.FitLemmas.{AllFit-same}
use Rattle.orca_edit.proofs.FoldLemmas.{fold_entries-append, fold_entries-same, silence-piece_after}
use Rattle.orca_edit.proofs.RuleLemmas.{obey-redo, obey-undo, undoes_some}

-- ---- without the ends of jumps

pub fold-done : (p : Piece) (entries : List Entry)
    → silence (fold_entries p (done_of entries)) ≡ silence (fold_entries p entries)
unfolding apply
fold-done p [] = refl
fold-done p (Fill area glyph ∷ entries) = fold-done (apply p (Fill area glyph)).piece entries
fold-done p (Put at block ∷ entries) = fold-done (apply p (Put at block)).piece entries
fold-done p (Move area to ∷ entries) = fold-done (apply p (Move area to)).piece entries
fold-done p (Resize dims ∷ entries) = fold-done (apply p (Resize dims)).piece entries
fold-done p (Reset ∷ entries) = fold-done (apply p Reset).piece entries
fold-done p (Frame ∷ entries) = fold-done (apply p Frame).piece entries
fold-done p (Hush ∷ entries) =
    fold-done p entries ∙ fold_entries-same p (silence p) entries refl

pub AllFit-done : (p : Piece) (entries : List Entry) → AllFit p entries
    → AllFit p (done_of entries)
unfolding apply
AllFit-done p [] fit = fit
AllFit-done p (Fill area glyph ∷ entries) fit =
    (fit.0, AllFit-done (apply p (Fill area glyph)).piece entries fit.1)
AllFit-done p (Put at block ∷ entries) fit =
    (fit.0, AllFit-done (apply p (Put at block)).piece entries fit.1)
AllFit-done p (Move area to ∷ entries) fit =
    (fit.0, AllFit-done (apply p (Move area to)).piece entries fit.1)
AllFit-done p (Resize dims ∷ entries) fit =
    (fit.0, AllFit-done (apply p (Resize dims)).piece entries fit.1)
AllFit-done p (Reset ∷ entries) fit = (fit.0, AllFit-done (apply p Reset).piece entries fit.1)
AllFit-done p (Frame ∷ entries) fit = (fit.0, AllFit-done (apply p Frame).piece entries fit.1)
AllFit-done p (Hush ∷ entries) fit =
    AllFit-done p entries (AllFit-same (silence p) p entries refl fit.1)

-- ---- the last edit, and all after it

-- the last edit, and what follows it, which is no edit
record EndsIn (rest : List Entry) : Type 0 where
  edit : Entry
  after : List Entry
  is : rest ≡ edit ∷ after
  edits : is_edit edit ≡ true
  plain : last_edit after ≡ None

ends-by : (entry : Entry) (entries : List Entry) (last : Option ℕ) (b : Bool) (i : ℕ)
    → last ≡ last_edit entries → b ≡ is_edit entry
    → ((j : ℕ) → last_edit entries ≡ Some j → EndsIn (drop j entries))
    → option_map_or (λ j. Some (suc j)) last (if b then Some 0 else None) ≡ Some i
    → EndsIn (drop i (entry ∷ entries))
ends-by entry entries (Some j) b i last edits later found =
    subst (λ (k : ℕ). EndsIn (drop k (entry ∷ entries))) (same_Some _ _ found)
    (later j (sym last))
ends-by entry entries None true i last edits later found =
    subst (λ (k : ℕ). EndsIn (drop k (entry ∷ entries))) (same_Some _ _ found)
    (record { edit = entry; after = entries; is = refl; edits = sym edits; plain = sym last })
ends-by entry entries None false i last edits later found = absurd (none-some _ found)

ends_in : (entries : List Entry) (i : ℕ) → last_edit entries ≡ Some i → EndsIn (drop i entries)
ends_in [] i found = absurd (none-some _ found)
ends_in (entry ∷ entries) i found =
    ends-by entry entries (last_edit entries) (is_edit entry) i refl refl (ends_in entries) found

-- ---- the group of an undo

-- a last edit that isn't there: neither the first entry is one, nor one of the others
pub plain-by : (last : Option ℕ) (b : Bool)
    → option_map_or (λ j. Some (suc j)) last (if b then Some 0 else None) ≡ None
    → (last ≡ None) × (b ≡ false)
plain-by (Some j) b none = absurd (none-some _ (sym none))
plain-by None true none = absurd (none-some _ (sym none))
plain-by None false none = (refl, refl)

abbrev is_plain : Entry → Bool
is_plain entry = not (is_edit entry)

-- what is no edit, and then nothing or an edit
stretch : (entries tail : List Entry) → last_edit entries ≡ None → begins_anew tail ≡ true
    → prefix_len is_plain (done_of entries ++ tail) ≡ length (done_of entries)
stretch [] [] plain anew = refl
stretch [] (entry ∷ tail) plain anew = rw anew refl
stretch (Frame ∷ entries) tail plain anew =
    omega (arith, stretch entries tail (plain-by (last_edit entries) false plain).0 anew)
stretch (Hush ∷ entries) tail plain anew =
    stretch entries tail (plain-by (last_edit entries) false plain).0 anew
stretch (Fill area glyph ∷ entries) tail plain anew =
    absurd (true≢false (plain-by (last_edit entries) true plain).1)
stretch (Put at block ∷ entries) tail plain anew =
    absurd (true≢false (plain-by (last_edit entries) true plain).1)
stretch (Move area to ∷ entries) tail plain anew =
    absurd (true≢false (plain-by (last_edit entries) true plain).1)
stretch (Resize dims ∷ entries) tail plain anew =
    absurd (true≢false (plain-by (last_edit entries) true plain).1)
stretch (Reset ∷ entries) tail plain anew =
    absurd (true≢false (plain-by (last_edit entries) true plain).1)

stretch-while : (entries tail : List Entry) → last_edit entries ≡ None → begins_anew tail ≡ true
    → length (take_while is_plain (done_of entries ++ tail)) ≡ length (done_of entries)
stretch-while entries tail plain anew =
    let long = length-append (done_of entries) tail in
    rw (stretch entries tail plain anew)
    (length-take-le (length (done_of entries)) (done_of entries ++ tail) (omega (arith, long)))

group-by : (edit : Entry) (after tail : List Entry) → is_edit edit ≡ true
    → last_edit after ≡ None → begins_anew tail ≡ true
    → group_of (done_of (edit ∷ after) ++ tail) ≡ length (done_of (edit ∷ after))
group-by (Fill area glyph) after tail edits plain anew =
    omega (arith, stretch-while after tail plain anew)
group-by (Put at block) after tail edits plain anew =
    omega (arith, stretch-while after tail plain anew)
group-by (Move area to) after tail edits plain anew =
    omega (arith, stretch-while after tail plain anew)
group-by (Resize dims) after tail edits plain anew =
    omega (arith, stretch-while after tail plain anew)
group-by Reset after tail edits plain anew =
    omega (arith, stretch-while after tail plain anew)
group-by Frame after tail edits plain anew = absurd (true≢false (sym edits))
group-by Hush after tail edits plain anew = absurd (true≢false (sym edits))

-- what an undo cuts off is the group that comes back first
group-undone : (entries tail : List Entry) (i : ℕ) → last_edit entries ≡ Some i
    → begins_anew tail ≡ true
    → take (group_of (done_of (drop i entries) ++ tail)) (done_of (drop i entries) ++ tail)
    ≡ done_of (drop i entries)
group-undone entries tail i last anew =
    let e : EndsIn (drop i entries) = ends_in entries i last in
    rw (e.is) (
    let cut : List Entry = done_of (e.edit ∷ e.after) in
    ap (λ (n : ℕ). take n (cut ++ tail)) (group-by e.edit e.after tail e.edits e.plain anew)
    ∙ (take-append-le (length cut) cut tail (omega arith) ∙ take_all (length cut) cut (omega arith))
    )

-- ---- an undo and a redo

without_last : (entries : List Entry) (entry : Entry)
    → take (length (entries ++ entry ∷ []) - 1) (entries ++ entry ∷ []) ≡ entries
without_last entries entry =
    let long : length (entries ++ entry ∷ []) - 1 ≡ length entries =
    omega (arith, length-append entries (entry ∷ []))
    in
    rw long (take-append-le (length entries) entries (entry ∷ []) (omega arith)
    ∙ take_all (length entries) entries (omega arith))

history-back : (m : MachineState) (i : ℕ) → last_edit m.history ≡ Some i
    → begins_anew m.tail ≡ true
    → history_redone (take i m.history ++ Hush ∷ []) (done_of (drop i m.history) ++ m.tail)
    ≡ take i m.history ++ (done_of (drop i m.history) ++ Hush ∷ [])
history-back m i last anew =
    rw (without_last (take i m.history) Hush, group-undone m.history m.tail i last anew) refl

folds-back : (p : Piece) (entries : List Entry) (i : ℕ)
    → silence (fold_entries p (take i entries ++ (done_of (drop i entries) ++ Hush ∷ [])))
    ≡ silence (fold_entries p entries)
unfolding apply
folds-back p entries i =
    let q : Piece = fold_entries p (take i entries) in
    ap silence (fold_entries-append p (take i entries) (done_of (drop i entries) ++ Hush ∷ []))
    ∙ (ap silence (fold_entries-append q (done_of (drop i entries)) (Hush ∷ []))
    ∙ (fold-done q (drop i entries)
    ∙ (ap silence (sym (fold_entries-append p (take i entries) (drop i entries)))
    ∙ ap (λ (es : List Entry). silence (fold_entries p es)) (take-append-drop i entries))))

back : (m : MachineState) (i : ℕ) → last_edit m.history ≡ Some i → begins_anew m.tail ≡ true
    → silence (piece_of (redo (jump_to m i).machine).machine) ≡ silence (piece_of m)
unfolding redo jump_to
back m i last anew =
    rw (history-back m i last anew)
    (silence-piece_after m.opened m.seed
    (take i m.history ++ (done_of (drop i m.history) ++ Hush ∷ [])) (min m.closed (i + 1))
    ∙ (folds-back (opened_piece m.opened m.seed) m.history i
    ∙ sym (silence-piece_after m.opened m.seed m.history m.closed)))

pub redoes_undo : (m : MachineState) → begins_anew m.tail ≡ true → rule_against m Undo ≡ None
    → rule_against (obey m Undo).machine Redo ≡ None
    → silence (piece_of (obey (obey m Undo).machine Redo).machine) ≡ silence (piece_of m)
redoes_undo m anew allowed again =
    undoes_some m (last_edit m.history) refl allowed _ (λ i last.
    let undo = obey-undo m i allowed last in
    let free : rule_against (jump_to m i).machine Redo ≡ None =
    ap (λ o. rule_against o.machine Redo) (sym undo) ∙ again
    in
    rw undo (rw (obey-redo (jump_to m i).machine free) (back m i last anew)))

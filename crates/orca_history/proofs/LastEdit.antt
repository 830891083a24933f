-- The last edit of a history, looked for from its end.
use Rattle.std.proofs.Common.{◌≡◌, ℕ, suc, ◌+◌, ◌-◌, ◌<◌, ◌≤◌, Bool, true, false, List, [], ◌∷◌, ◌++◌, length, get_or, take, Option, Some, None, refl, arith, ap, sym, ◌∙◌}
use Rattle.std.specs.Prelude.{if◌then◌else◌}
use Rattle.std.specs.Option.{option_map_or}
use Rattle.std.proofs.lemmas.List.{length-take-le, take_more}
use Rattle.orca_base.specs.declared.command.Entry.{Entry}
use Rattle.orca_base.specs.Histories.{is_edit, last_edit}

-- an entry more
last_edit-push : (entries : List Entry) (entry : Entry)
    → last_edit (entries ++ entry ∷ [])
    ≡ (if is_edit entry then Some (length entries) else last_edit entries)
last_edit-push [] entry = refl
last_edit-push (e ∷ entries) entry =
    ap (λ (last : Option ℕ). option_map_or (λ i. Some (suc i)) last
    (if is_edit e then Some 0 else None)) (last_edit-push entries entry)
    ∙ by (is_edit entry)
  where
    by : (b : Bool) → option_map_or (λ i. Some (suc i))
        (if b then Some (length entries) else last_edit entries)
        (if is_edit e then Some 0 else None)
        ≡ (if b then Some (length (e ∷ entries)) else last_edit (e ∷ entries))
    by true = refl
    by false = refl

more : (entries : List Entry) (n : ℕ) (entry : Entry) → n < length entries
    → entry ≡ get_or entries n entry
    → last_edit (take (n + 1) entries)
    ≡ (if is_edit entry then Some n else last_edit (take n entries))
more entries n entry below is =
    ap last_edit (take_more entries n entry below)
    ∙ (last_edit-push (take n entries) (get_or entries n entry)
    ∙ rw (← is) (ap (λ (k : ℕ). if is_edit entry then Some k else last_edit (take n entries))
    (length-take-le n entries (omega (arith, below)))))

-- what is known of the last edit once the entries from `end` on are no edits
at-end : (entries : List Entry) (end : ℕ) (entry : Entry) → 0 < end → end ≤ length entries
    → entry ≡ get_or entries (end - 1) entry
    → last_edit entries ≡ last_edit (take end entries)
    → last_edit entries
    ≡ (if is_edit entry then Some (end - 1) else last_edit (take (end - 1) entries))
at-end entries end entry some within is so_far =
    let next : end - 1 + 1 ≡ end = omega arith in
    so_far ∙ (ap (λ (k : ℕ). last_edit (take k entries)) (sym next)
    ∙ more entries (end - 1) entry (omega arith) is)

-- the entry before `end` is the last edit
pub last-found : (entries : List Entry) (end : ℕ) (entry : Entry) → 0 < end
    → end ≤ length entries → entry ≡ get_or entries (end - 1) entry → is_edit entry ≡ true
    → last_edit entries ≡ last_edit (take end entries) → last_edit entries ≡ Some (end - 1)
last-found entries end entry some within is edit so_far =
    at-end entries end entry some within is so_far ∙ (rw edit refl)

-- it is none, and the last edit stands before it
pub last-before : (entries : List Entry) (end : ℕ) (entry : Entry) → 0 < end
    → end ≤ length entries → entry ≡ get_or entries (end - 1) entry → is_edit entry ≡ false
    → last_edit entries ≡ last_edit (take end entries)
    → last_edit entries ≡ last_edit (take (end - 1) entries)
last-before entries end entry some within is other so_far =
    at-end entries end entry some within is so_far ∙ (rw other refl)

-- The hand of the last edit, looked for from the end.
use Rattle.std.proofs.Common.{◌≡◌, ℕ, ◌+◌, ◌-◌, ◌<◌, ◌≤◌, Bool, true, false, List, [], ◌∷◌, ◌++◌, length, get_or, take, Option, Some, None, refl, arith, ap, sym, ◌∙◌}
use Rattle.std.specs.Prelude.{if◌then◌else◌}
use Rattle.std.specs.Option.{option_or}
use Rattle.std.proofs.lemmas.List.{take_more}
use Rattle.orca_jam.specs.Owners.{last_editor}
use Rattle.orca_jam.specs.declared.owner.Owner.{Owner}

-- an entry more
pub last_editor-push : (owners : List Owner) (owner : Owner)
    → last_editor (owners ++ owner ∷ [])
    ≡ (if owner.edit then Some owner.hand else last_editor owners)
last_editor-push [] owner = refl
last_editor-push (o ∷ owners) owner =
    ap (λ (last : Option ℕ). option_or last (if o.edit then Some o.hand else None))
    (last_editor-push owners owner)
    ∙ by (owner.edit)
  where
    by : (b : Bool)
        → option_or (if b then Some owner.hand else last_editor owners)
        (if o.edit then Some o.hand else None)
        ≡ (if b then Some owner.hand else last_editor (o ∷ owners))
    by true = refl
    by false = refl

-- what is known of it once the entries from `end` on are no edits
pub last_editor-at : (owners : List Owner) (end : ℕ) (none : Owner) → 0 < end
    → end ≤ length owners → last_editor owners ≡ last_editor (take end owners)
    → last_editor owners
    ≡ (if (get_or owners (end - 1) none).edit then Some (get_or owners (end - 1) none).hand
    else last_editor (take (end - 1) owners))
last_editor-at owners end none some within so_far =
    let next : end - 1 + 1 ≡ end = omega arith in
    so_far ∙ (ap (λ (k : ℕ). last_editor (take k owners)) (sym next)
    ∙ (ap last_editor (take_more owners (end - 1) none (omega arith))
    ∙ last_editor-push (take (end - 1) owners) (get_or owners (end - 1) none)))

-- The room that jumps and redos need.
use Rattle.std.proofs.Common.{◌≡◌, ℕ, ◌+◌, ◌-◌, ◌<◌, ◌≤◌, ◌⊎◌, true, List, [], ◌∷◌, ◌++◌, length, suc, take, drop, refl, arith, ap, sym, ◌∙◌, inl, inr, subst, append_assoc, drop-cons, length-append, length-drop}
use Rattle.std.specs.Prelude.{All, get_or}
use Rattle.std.specs.List.{remove}
use Rattle.std.proofs.lemmas.Bool.{cases_Bool, cases_lt}
use Rattle.std.proofs.lemmas.List.{length-take-le, take-append-drop, take_all, take_more}
use Rattle.std.proofs.lemmas.List.Edits.{length-remove}
use Rattle.std.proofs.lemmas.List.Elements.{All-append, All-drop, All-nil, filter-append, filter_passes}
use Rattle.std.proofs.lemmas.Option.{get_or_from_slice_get, slice_get_within}
use Rattle.circular_buffer.proofs.Places.{slice_get-drop, slice_get-last}
use Rattle.orca_base.specs.declared.command.Entry.{Entry}
use Rattle.orca_base.specs.declared.command.Entry.TheVariants.{Hush}
use Rattle.orca_base.specs.Histories.{done_of, is_done}
use Rattle.orca_history.specs.Entries.{HasRoom, IsLists}
use Rattle.orca_history.specs.Trails.{EndsInHush}
use Rattle.orca_history.proofs.Moves.{hush-push}

-- ---- what was done

pub done-cons : (e : Entry) (es : List Entry) → length (done_of (e ∷ es)) ≤ length (done_of es) + 1
done-cons e es = elim (cases_Bool (is_done e)) [
  | inl done ↦ rw done (omega arith)
  | inr hush ↦ rw hush (omega arith)
]

pub done-most : (es : List Entry) → length (done_of es) ≤ length es
done-most [] = omega arith
done-most (e ∷ es) = omega (arith, done-cons e es, done-most es)

pub done-both : (es more : List Entry)
    → length (done_of (es ++ more)) ≡ length (done_of es) + length (done_of more)
done-both es more =
    ap length (filter-append is_done es more) ∙ length-append (done_of es) (done_of more)

-- the entries before a moment, and those from it on
pub done-split : (es : List Entry) (m : ℕ)
    → length (done_of es) ≡ length (done_of (take m es)) + length (done_of (drop m es))
done-split es m =
    ap (λ (l : List Entry). length (done_of l)) (sym (take-append-drop m es))
    ∙ done-both (take m es) (drop m es)

-- ---- Hush at the end

pub ends-in-hush : (es : List Entry) → EndsInHush (es ++ Hush ∷ [])
ends-in-hush es = slice_get-last es Hush _ (omega (arith, length-append es (Hush ∷ [])))

-- a Hush at the end wasn't done
pub hush-less : (es : List Entry) → EndsInHush es → length (done_of es) + 1 ≤ length es
hush-less es ends =
    let n : ℕ = length es - 1 in
    let within : n < length es = slice_get_within es n Hush ends in
    let last : es ≡ take n es ++ Hush ∷ [] =
    sym (take_all (n + 1) es (omega arith))
    ∙ (take_more es n Hush within
    ∙ ap (λ (e : Entry). take n es ++ e ∷ []) (get_or_from_slice_get es n Hush Hush ends)) in
    omega (
      arith,
      ap (λ (l : List Entry). length (done_of l)) last ∙ hush-push (take n es) Hush refl,
      done-most (take n es),
      length-take-le n es (omega arith),
      within,
    )

pub ends-drop : (es : List Entry) (m : ℕ) → m < length es → EndsInHush es
    → EndsInHush (drop m es)
ends-drop es m below ends =
    slice_get-drop m es (length (drop m es) - 1) (length es - 1)
    (omega (arith, length-drop m es, below)) ∙ ends

-- ---- a push

pub room-pushed : (es : List Entry) (room tail_room : ℕ) → length es < room
    → length es ≤ tail_room → HasRoom es 0 room tail_room
room-pushed es room tail_room more tail = record {
  all = omega (arith, more);
  hush = λ _. inr more;
  cut = omega (arith, done-most es, tail);
}

pub lists-pushed : (es : List Entry) → IsLists (record { entries = es; tail = [] })
lists-pushed es = record {
  done = All-nil (λ (e : Entry). is_done e ≡ true);
  hushed = λ some. absurd (omega (arith, some));
}

-- ---- a jump

-- with the Hush of a jump there are no more entries in all than there were, or one more than there
-- were entries
pub cut-most : (es : List Entry) (m tail most : ℕ) → m < length es
    → (0 < tail → EndsInHush es) → length es + tail ≤ most
    → EndsInHush es ⊎ (length es < most)
    → m + 1 + (length (done_of (drop m es)) + tail) ≤ most
cut-most es m tail most below hushed all hush = elim hush [
  | inl ends ↦
      omega (
        arith,
        hush-less (drop m es) (ends-drop es m below ends),
        length-drop m es,
        below,
        all,
      )
  | inr more ↦ elim (cases_lt 0 tail) [
    | inl some ↦
        omega (
          arith,
          hush-less (drop m es) (ends-drop es m below (hushed some)),
          length-drop m es,
          below,
          all,
        )
    | inr none ↦ omega (arith, done-most (drop m es), length-drop m es, below, more, none)
  ]
]

pub room-jumped : (es : List Entry) (m tail room tail_room : ℕ) → m < length es
    → (0 < tail → EndsInHush es) → HasRoom es tail room tail_room
    → HasRoom (take m es ++ Hush ∷ []) (length (done_of (drop m es)) + tail) room tail_room
room-jumped es m tail room tail_room below hushed had = record {
  all = omega (
    arith,
    cut-most es m tail room below hushed had.all (had.hush (omega (arith, below))),
    length-append (take m es) (Hush ∷ []),
    length-take-le m es (omega (arith, below)),
  );
  hush = λ _. inl (ends-in-hush (take m es));
  cut = omega (arith, had.cut, done-split es m, hush-push (take m es) Hush refl);
}

pub lists-jumped : (es tail : List Entry) (m : ℕ) → All (λ e. is_done e ≡ true) tail
    → IsLists (record { entries = take m es ++ Hush ∷ []; tail = done_of (drop m es) ++ tail })
lists-jumped es tail m done = record {
  done = All-append (λ (e : Entry). is_done e ≡ true) (done_of (drop m es)) tail
      (filter_passes is_done (drop m es)) done;
  hushed = λ _. ends-in-hush (take m es);
}

-- ---- a redo

redone-end : (es back : List Entry)
    → take (length es - 1) es ++ (back ++ Hush ∷ [])
    ≡ (take (length es - 1) es ++ back) ++ Hush ∷ []
redone-end es back = sym (append_assoc (take (length es - 1) es) back (Hush ∷ []))

pub ends-redone : (es back : List Entry)
    → EndsInHush (take (length es - 1) es ++ (back ++ Hush ∷ []))
ends-redone es back =
    subst EndsInHush (sym (redone-end es back))
    (ends-in-hush (take (length es - 1) es ++ back))

pub length-redone : (es back : List Entry) → 0 < length es
    → length (take (length es - 1) es ++ (back ++ Hush ∷ [])) ≡ length es + length back
length-redone es back some =
    omega (
      arith,
      length-append (take (length es - 1) es) (back ++ Hush ∷ []),
      length-append back (Hush ∷ []),
      length-take-le (length es - 1) es (omega arith),
      some,
    )

pub room-redone : (es back : List Entry) (tail left room tail_room : ℕ) → 0 < length es
    → HasRoom es tail room tail_room → length back + left ≡ tail
    → HasRoom (take (length es - 1) es ++ (back ++ Hush ∷ [])) left room tail_room
room-redone es back tail left room tail_room some had all = record {
  all = omega (arith, had.all, length-redone es back some, all);
  hush = λ _. inl (ends-redone es back);
  cut = omega (
    arith,
    had.cut,
    done-split es (length es - 1),
    done-both (take (length es - 1) es) (back ++ Hush ∷ []),
    hush-push back Hush refl,
    done-most back,
    all,
  );
}

pub lists-redone : (es tail : List Entry) (group : ℕ) → All (λ e. is_done e ≡ true) tail
    → IsLists (record {
      entries = take (length es - 1) es ++ (take group tail ++ Hush ∷ []);
      tail = drop group tail;
    })
lists-redone es tail group done = record {
  done = All-drop (λ (e : Entry). is_done e ≡ true) group tail done;
  hushed = λ _. ends-redone es (take group tail);
}

-- ---- a Retract

-- no more was done without an entry
done-later : (e : Entry) (es : List Entry) → length (done_of es) ≤ length (done_of (e ∷ es))
done-later e es = elim (cases_Bool (is_done e)) [
  | inl done ↦ rw done (omega arith)
  | inr hush ↦ rw hush (omega arith)
]

done-remove : (es : List Entry) (m : ℕ) → m < length es
    → length (done_of (remove es m)) ≤ length (done_of es)
done-remove es m below =
    let e : Entry = get_or es m Hush in
    omega (
      arith,
      done-both (take m es) (drop (suc m) es),
      done-split es m,
      ap (λ (l : List Entry). length (done_of l)) (drop-cons es m Hush below),
      done-later e (drop (suc m) es),
    )

pub length-retracted : (es : List Entry) (m : ℕ) → m < length es
    → length (remove es m ++ Hush ∷ []) ≡ length es
length-retracted es m below =
    length-append (remove es m) (Hush ∷ []) ∙ length-remove es m below

pub room-retracted : (es : List Entry) (m tail room tail_room : ℕ) → m < length es
    → HasRoom es tail room tail_room → HasRoom (remove es m ++ Hush ∷ []) 0 room tail_room
room-retracted es m tail room tail_room below had = record {
  all = omega (arith, had.all, length-retracted es m below);
  hush = λ _. inl (ends-in-hush (remove es m));
  cut = omega (arith, had.cut, done-remove es m below, hush-push (remove es m) Hush refl);
}

-- Lists of voices in which none stands twice, and what is left of them when one goes off.
use Rattle.std.proofs.Common.{inl, inr, ◌≡◌, ℕ, ◌+◌, ◌*◌, ◌<◌, ◌≤◌, true, false, ◌||◌, eqb, List, [], ◌∷◌, ◌++◌, length, map, refl, sym, ap, ◌∙◌, arith}
use Rattle.std.specs.Cmp.{IsEquivalence}
use Rattle.std.specs.List.{IsDistinct, AllByRecursion, list_any}
use Rattle.std.proofs.lemmas.Bool.{and_parts, and_from, or_parts, or_from, or_left, or_cases, eqb-true, eq-eqb, ne_eqb, both_ways, false_from_ne_true, cases_Bool, cond-true, cond-false, not_from_true, not_from_false}
use Rattle.std.proofs.lemmas.List.{length-map}
use Rattle.std.proofs.lemmas.Map.Steps.{length-le_from_distinct_below}
use Rattle.orca_base.specs.declared.limits.TheConstants.{MAX_CHANNEL, MAX_DATA, MAX_NOTES}
use Rattle.orca_notes.specs.Device.{Voice, is_same, is_on, keys_without}

pub is_same-refl : (v : Voice) → is_same v v ≡ true
is_same-refl v = and_from _ _ (eq-eqb v.channel v.channel refl) (eq-eqb v.key v.key refl)

pub same_from_true : (v w : Voice) → is_same v w ≡ true → v ≡ w
same_from_true v w h =
    let parts = and_parts _ _ h in
    let channel : v.channel ≡ w.channel = eqb-true _ _ parts.0 in
    let key : v.key ≡ w.key = eqb-true _ _ parts.1 in
    let with_channel : ℕ → Voice = λ c. record { channel = c; key = v.key } in
    let with_key : ℕ → Voice = λ k. record { channel = w.channel; key = k } in
    ap with_channel channel ∙ ap with_key key

is_same-comm-true : (v w : Voice) → is_same v w ≡ true → is_same w v ≡ true
is_same-comm-true v w h = let e : v ≡ w = same_from_true v w h in rw e (is_same-refl w)

pub is_same-comm-false : (v w : Voice) → is_same v w ≡ false → is_same w v ≡ false
is_same-comm-false v w h = false_from_ne_true _ (λ t. both_ways _ h (is_same-comm-true w v t))

pub same_voices : IsEquivalence is_same
same_voices = record {
  refl = is_same-refl;
  symm = λ v w. elim (cases_Bool (is_same v w)) [
    | inl t ↦ t ∙ sym (is_same-comm-true v w t)
    | inr f ↦ f ∙ sym (is_same-comm-false v w f)
  ];
  congr = λ v w u t. let e : v ≡ w = same_from_true v w t in ap (λ (x : Voice). is_same x u) e;
}

-- a list without the voice stays when the voice goes off
pub keys_without-absent : (on : List Voice) (v : Voice)
    → is_on on v ≡ false → keys_without on v ≡ on
keys_without-absent [] v h = refl
keys_without-absent (w ∷ on) v h =
    let parts = or_parts (is_same v w) (is_on on v) h in
    cond-true _ _ _ (not_from_false _ parts.0) ∙ ap (λ l. w ∷ l) (keys_without-absent on v parts.1)

-- which voices are in a list from which one in the middle is left out
All-middle : (P : Voice → Type 0) (front : List Voice) (v : Voice) (rest : List Voice)
    → AllByRecursion P (front ++ v ∷ rest) → P v × AllByRecursion P (front ++ rest)
All-middle P [] v rest h = (h.0, h.1)
All-middle P (w ∷ front) v rest h = let k = All-middle P front v rest h.1 in (k.0, (h.0, k.1))

absent_from_apart : (v : Voice) (on : List Voice)
    → AllByRecursion (λ w. is_same v w ≡ false) on → is_on on v ≡ false
absent_from_apart v [] h = refl
absent_from_apart v (w ∷ on) h = or_from _ _ h.0 (absent_from_apart v on h.1)

pub distinct-middle : (front : List Voice) (v : Voice) (rest : List Voice)
    → IsDistinct is_same (front ++ v ∷ rest) → IsDistinct is_same (front ++ rest)
unfolding IsDistinct
distinct-middle [] v rest h = h.1
distinct-middle (w ∷ front) v rest h =
    ((All-middle _ front v rest h.0).1, distinct-middle front v rest h.1)

-- a voice that stands once goes off
pub keys_without-middle : (front : List Voice) (v : Voice) (rest : List Voice)
    → IsDistinct is_same (front ++ v ∷ rest) → keys_without (front ++ v ∷ rest) v ≡ front ++ rest
unfolding IsDistinct
keys_without-middle [] v rest h =
    cond-false _ _ _ (not_from_true _ (is_same-refl v))
    ∙ keys_without-absent rest v (absent_from_apart v rest h.0)
keys_without-middle (w ∷ front) v rest h =
    let apart : is_same v w ≡ false = is_same-comm-false w v (All-middle _ front v rest h.0).0 in
    cond-true _ _ _ (not_from_false _ apart)
    ∙ ap (λ l. w ∷ l) (keys_without-middle front v rest h.1)

pub is_on-middle : (front : List Voice) (v : Voice) (rest : List Voice)
    → is_on (front ++ v ∷ rest) v ≡ true
is_on-middle [] v rest = or_left _ _ (is_same-refl v)
is_on-middle (w ∷ front) v rest =
    elim (is_same v w) as (λ b. (b || is_on (front ++ v ∷ rest) v) ≡ true) [
      | true ↦ refl
      | false ↦ is_on-middle front v rest
    ]

-- ---- each voice has a number, so there are at most as many as channels and keys

abbrev pub IsInRange : Voice → Type 0
IsInRange v = (v.channel ≤ MAX_CHANNEL) × (v.key ≤ MAX_DATA)

abbrev number : Voice → ℕ
number v = v.channel * (MAX_DATA + 1) + v.key

numbers-apart : (v w : Voice) → IsInRange v → IsInRange w → is_same v w ≡ false
    → eqb (number v) (number w) ≡ false
numbers-apart v w hv hw apart = ne_eqb _ _ (λ e.
    let channel : v.channel ≡ w.channel = omega arith in
    let key : v.key ≡ w.key = omega arith in
    both_ways _ apart (and_from _ _ (eq-eqb _ _ channel) (eq-eqb _ _ key)))

all_numbers-apart : (v : Voice) (on : List Voice) → IsInRange v → AllByRecursion IsInRange on
    → AllByRecursion (λ w. is_same v w ≡ false) on
    → AllByRecursion (λ n. eqb (number v) n ≡ false) (map number on)
all_numbers-apart v [] hv h apart = tt
all_numbers-apart v (w ∷ on) hv h apart =
    (numbers-apart v w hv h.0 apart.0, all_numbers-apart v on hv h.1 apart.1)

numbers-distinct : (on : List Voice) → AllByRecursion IsInRange on → IsDistinct is_same on
    → IsDistinct eqb (map number on)
unfolding IsDistinct
numbers-distinct [] h d = tt
numbers-distinct (v ∷ on) h d =
    (all_numbers-apart v on h.0 h.1 d.0, numbers-distinct on h.1 d.1)

numbers-small : (on : List Voice) → AllByRecursion IsInRange on
    → (q : ℕ) → list_any (eqb q) (map number on) ≡ true → q < MAX_NOTES
numbers-small [] h q e = absurd (both_ways _ refl e)
numbers-small (v ∷ on) h q e =
    elim (or_cases _ _ e) [
      | inl here ↦ let same : q ≡ number v = eqb-true _ _ here in omega arith
      | inr later ↦ numbers-small on h.1 q later
    ]

-- voices in range of which none stands twice are at most as many as there are
pub length-voices : (on : List Voice) → AllByRecursion IsInRange on → IsDistinct is_same on
    → length on ≤ MAX_NOTES
length-voices on h d =
    let few = length-le_from_distinct_below (map number on) MAX_NOTES
    (numbers-distinct on h d) (numbers-small on h) in
    omega (arith, few, length-map on number)

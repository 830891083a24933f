-- There are at most as many voices as channels and keys.
use Rattle.std.proofs.Common.{inl, inr, ◌≡◌, ℕ, ◌+◌, ◌*◌, ◌<◌, ◌≤◌, true, false, eqb, List, [], ◌∷◌, length, map, refl, sym, ap, ◌∙◌, arith}
use Rattle.std.specs.Cmp.{IsEquivalence}
use Rattle.std.specs.List.{IsDistinct, AllByRecursion, list_any}
use Rattle.std.proofs.lemmas.Bool.{and_parts, and_from, or_cases, eqb-true, eq-eqb, ne_eqb, both_ways, false_from_ne_true, cases_Bool}
use Rattle.std.proofs.lemmas.List.{length-map}
use Rattle.std.proofs.lemmas.Map.Steps.{length-le_from_distinct_below}
use Rattle.orca_base.specs.declared.limits.TheConstants.{MAX_CHANNEL, MAX_DATA, MAX_NOTES}
use Rattle.orca_wav.specs.declared.voice.Voice.{Voice}
use Rattle.orca_wav.specs.Rendering.{is_of, is_same_voice}

-- the channel and the key are in range
abbrev pub IsInRange : Voice → Type 0
IsInRange v = (v.channel ≤ MAX_CHANNEL) × (v.key ≤ MAX_DATA)

is_same-refl : (v : Voice) → is_same_voice v v ≡ true
is_same-refl v = and_from _ _ (eq-eqb v.channel v.channel refl) (eq-eqb v.key v.key refl)

-- the channel and the key of one are those of the other
parts : (v w : Voice) → is_same_voice v w ≡ true → (v.channel ≡ w.channel) × (v.key ≡ w.key)
parts v w h =
    let both = and_parts _ _ h in (sym (eqb-true _ _ both.0), sym (eqb-true _ _ both.1))

is_same-comm-true : (v w : Voice) → is_same_voice v w ≡ true → is_same_voice w v ≡ true
is_same-comm-true v w h =
    let both = parts v w h in and_from _ _ (eq-eqb _ _ both.0) (eq-eqb _ _ both.1)

is_same-comm-false : (v w : Voice) → is_same_voice v w ≡ false → is_same_voice w v ≡ false
is_same-comm-false v w h = false_from_ne_true _ (λ t. both_ways _ h (is_same-comm-true w v t))

pub same_voices : IsEquivalence is_same_voice
same_voices = record {
  refl = is_same-refl;
  symm = λ v w. elim (cases_Bool (is_same_voice v w)) [
    | inl t ↦ t ∙ sym (is_same-comm-true v w t)
    | inr f ↦ f ∙ sym (is_same-comm-false v w f)
  ];
  congr = λ v w u t.
      let both = parts v w t in
      ap (λ c. is_of c v.key u) both.0 ∙ ap (λ k. is_of w.channel k u) both.1;
}

-- each voice has a number
abbrev number : Voice → ℕ
number v = v.channel * (MAX_DATA + 1) + v.key

numbers-apart : (v w : Voice) → IsInRange v → IsInRange w → is_same_voice v w ≡ false
    → eqb (number v) (number w) ≡ false
numbers-apart v w hv hw apart = ne_eqb _ _ (λ e.
    let channel : w.channel ≡ v.channel = omega arith in
    let key : w.key ≡ v.key = omega arith in
    both_ways _ apart (and_from _ _ (eq-eqb _ _ channel) (eq-eqb _ _ key)))

all_numbers-apart : (v : Voice) (voices : List Voice) → IsInRange v
    → AllByRecursion IsInRange voices → AllByRecursion (λ w. is_same_voice v w ≡ false) voices
    → AllByRecursion (λ n. eqb (number v) n ≡ false) (map number voices)
all_numbers-apart v [] hv h apart = tt
all_numbers-apart v (w ∷ voices) hv h apart =
    (numbers-apart v w hv h.0 apart.0, all_numbers-apart v voices hv h.1 apart.1)

numbers-distinct : (voices : List Voice) → AllByRecursion IsInRange voices
    → IsDistinct is_same_voice voices → IsDistinct eqb (map number voices)
unfolding IsDistinct
numbers-distinct [] h d = tt
numbers-distinct (v ∷ voices) h d =
    (all_numbers-apart v voices h.0 h.1 d.0, numbers-distinct voices h.1 d.1)

numbers-small : (voices : List Voice) → AllByRecursion IsInRange voices
    → (q : ℕ) → list_any (eqb q) (map number voices) ≡ true → q < MAX_NOTES
numbers-small [] h q e = absurd (both_ways _ refl e)
numbers-small (v ∷ voices) h q e =
    elim (or_cases _ _ e) [
      | inl here ↦ let same : q ≡ number v = eqb-true _ _ here in omega arith
      | inr later ↦ numbers-small voices h.1 q later
    ]

pub length-voices : (voices : List Voice) → AllByRecursion IsInRange voices
    → IsDistinct is_same_voice voices → length voices ≤ MAX_NOTES
length-voices voices h d =
    let few = length-le_from_distinct_below (map number voices) MAX_NOTES
    (numbers-distinct voices h d) (numbers-small voices h) in
    omega (arith, few, length-map voices number)

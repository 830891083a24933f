-- The sum over the tones is the sum over their voices.
use Rattle.std.proofs.Common.{◌≡◌, ℕ, ◌+◌, ◌*◌, ◌<◌, ◌≤◌, ltb, Bool, true, false, cond, List, [], ◌∷◌, ◌++◌, length, get_or, map, take, drop, refl, ap, ◌∙◌, arith}
use Rattle.std.proofs.Common.{ℤ, pos, negsuc, neg_ℤ, ◌+ℤ◌, ◌≤ℤ◌, w16, w32, to_z, of_z}
use Rattle.std.specs.Int.{int_max, int_min}
use Rattle.std.specs.Int.RustNames.{FitsSigned}
use Rattle.std.specs.List.{AllByRecursion, All, fold}
use Rattle.std.proofs.lemmas.Int.{ints, to_z-of_z}
use Rattle.std.proofs.lemmas.Grind.{common_steps}
use Rattle.std.proofs.lemmas.List.{map_more}
use Rattle.std.proofs.lemmas.List.Sums.{fold_push}
use Rattle.std.proofs.lemmas.List.Elements.{recursion_from_All}
use Rattle.orca_base.specs.declared.limits.TheConstants.{MAX_DATA}
use Rattle.orca_wav.specs.declared.limits.TheConstants.{HALF_PERIOD, VELOCITY_LEVEL}
use Rattle.orca_wav.specs.declared.tone.Tone.{Tone}
use Rattle.orca_wav.specs.Waves.{level, value_at, cut}
use Rattle.orca_wav.specs.Tones.{IsTone, value_of, tone_after}

value_of-tone : (n : ℕ) (tone : Tone) → IsTone n tone → value_of tone ≡ value_at n tone.voice
value_of-tone n tone h =
    ap (λ phase. cond (ltb phase HALF_PERIOD) (level tone.voice) (neg_ℤ (level tone.voice))) h.phase

values : (n : ℕ) (tones : List Tone) → AllByRecursion (IsTone n) tones
    → map value_of tones ≡ map (value_at n) (map (λ tone. tone.voice) tones)
values n [] h = refl
values n (tone ∷ tones) h =
    let first = value_of-tone n tone h.0 in
    let rest = values n tones h.1 in
    (cc)

pub values-voices : (n : ℕ) (tones : List Tone) → All (IsTone n) tones
    → map value_of tones ≡ map (value_at n) (map (λ tone. tone.voice) tones)
values-voices n tones h = values n tones (recursion_from_All (IsTone n) tones h)

-- ---- one tone more

-- the greatest level
abbrev MOST : ℕ
MOST = VELOCITY_LEVEL * MAX_DATA

-- the number is not further from zero than so
pub record IsWithin (most : ℕ) (z : ℤ) : Type 0 where
  pub low : neg_ℤ (pos most) ≤ℤ z
  pub high : z ≤ℤ pos most

IsWithin-cond : (b : Bool) (level : ℕ) → level ≤ MOST
    → IsWithin MOST (cond b (pos level) (neg_ℤ (pos level)))
IsWithin-cond true level h = record { low = omega (arith, ints); high = omega (arith, ints) }
IsWithin-cond false level h = record { low = omega (arith, ints); high = omega (arith, ints) }

pub IsWithin-value : (tone : Tone) → tone.voice.velocity ≤ MAX_DATA
    → IsWithin MOST (value_of tone)
IsWithin-value tone h = IsWithin-cond _ (VELOCITY_LEVEL * tone.voice.velocity) (omega arith)

-- the sum of the values so far, with one more
pub fold-more : (tones : List Tone) (i : ℕ) (d : Tone) → i < length tones
    → fold ◌+ℤ◌ (pos 0) (map value_of (take (i + 1) tones))
    ≡ fold ◌+ℤ◌ (pos 0) (map value_of (take i tones)) +ℤ value_of (get_or tones i d)
fold-more tones i d h =
    rw (map_more value_of tones i d h)
    (fold_push ◌+ℤ◌ (pos 0) (map value_of (take i tones)) (value_of (get_or tones i d)))

-- what is not yet done is as it was
pub get_or-left : (tones now : List Tone) (i : ℕ) (d : Tone) → i < length tones
    → now ≡ map tone_after (take i tones) ++ drop i tones → get_or now i d ≡ get_or tones i d
get_or-left tones now i d h e = rw e (grind (arith, common_steps))

-- a sum that fits is what the code adds
pub added : (a r s v f : ℤ) (i : ℕ) → i < 2048 → a ≡ s → r ≡ v → f ≡ s +ℤ v
    → IsWithin (8128 * i) a → IsWithin 8128 r
    → to_z w32 (of_z w32 (a +ℤ to_z w32 (of_z w32 r))) ≡ f
added a r s v f i few ea er ef wa wr = omega (arith, ints)

pub added-within : (a r : ℤ) (i : ℕ) → i < 2048
    → IsWithin (8128 * i) a → IsWithin 8128 r
    → IsWithin (8128 * (i + 1)) (to_z w32 (of_z w32 (a +ℤ to_z w32 (of_z w32 r))))
added-within a r i few wa wr = record { low = omega (arith, ints); high = omega (arith, ints) }

-- ---- the cut

pub cut-fits : (r z x : ℤ) → FitsSigned w32 r → r ≡ z
    → x ≡ int_max (negsuc 32766) (int_min (to_z w32 (of_z w32 r)) (pos 32767))
    → negsuc 32766 ≤ℤ x → x ≤ℤ pos 32767
    → to_z w16 (of_z w16 (to_z w32 (of_z w32 x))) ≡ cut z
cut-fits r z x fits same is low high =
    let whole : to_z w16 (of_z w16 (to_z w32 (of_z w32 x))) ≡ x = omega (arith, ints) in
    let inner = to_z-of_z w32 r fits in
    let e : x ≡ cut r = is ∙ ap (λ y. int_max (negsuc 32766) (int_min y (pos 32767))) inner in
    whole ∙ (e ∙ ap cut same)

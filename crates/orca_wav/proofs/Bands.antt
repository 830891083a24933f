-- The tones of a run: how many there are at most, and how they stay those of their voices.
use Rattle.std.proofs.Common.{◌≡◌, ℕ, ◌+◌, ◌≤◌, ◌<◌, Bool, true, false, cond, List, [], ◌∷◌, ◌++◌, length, map, refl, sym, ap, ◌∙◌, arith, lit<}
use Rattle.std.specs.List.{IsDistinct, AllByRecursion, All, filter}
use Rattle.std.proofs.lemmas.List.{length-map, map-append}
use Rattle.std.proofs.lemmas.List.Elements.{All-nil, All-push, All-filter, All-map, All-weaker, recursion_from_All}
use Rattle.std.proofs.lemmas.Map.Keys.{IsDistinct-push}
use Rattle.std.proofs.lemmas.Nat.{mod_below}
use Rattle.orca_base.specs.declared.limits.TheConstants.{MAX_NOTES}
use Rattle.orca_base.specs.Ranges.{AreInRange}
use Rattle.orca_wav.specs.declared.limits.TheConstants.{PERIOD}
use Rattle.orca_wav.specs.declared.voice.Voice.{Voice}
use Rattle.orca_wav.specs.declared.tone.Tone.{Tone}
use Rattle.orca_wav.specs.Waves.{phase_step, phase_at}
use Rattle.orca_wav.specs.Rendering.{is_same_voice, is_voice_on}
use Rattle.orca_wav.specs.Tones.{IsInPeriod, IsTone, IsBand, tone_after}
use Rattle.orca_wav.proofs.Increments.{increment-lt}
use Rattle.orca_wav.proofs.Phases.{phase_at-more, phase_at-first}
use Rattle.orca_wav.proofs.Few.{IsInRange, same_voices, length-voices}

abbrev pub voice_of : Tone → Voice
voice_of tone = tone.voice

abbrev pub voices : List Tone → List Voice
voices tones = map voice_of tones

pub IsBand-nil : (n : ℕ) → IsBand n []
unfolding IsDistinct
IsBand-nil n = record { tones = All-nil (IsTone n); distinct = tt }

-- a voice that begins
pub IsTone-first : (voice : Voice) → AreInRange voice.channel voice.key voice.velocity
    → IsTone voice.first (record { voice = voice; increment = phase_step voice.key; phase = 0 })
IsTone-first voice low = record {
  in_range = low;
  first = omega arith;
  increment = refl;
  phase = sym (phase_at-first voice);
}

pub IsBand-push : (n : ℕ) (tones : List Tone) (tone : Tone) → IsBand n tones → IsTone n tone
    → is_voice_on (voices tones) tone.voice.channel tone.voice.key ≡ false
    → IsBand n (tones ++ tone ∷ [])
IsBand-push n tones tone band one absent = record {
  tones = All-push (IsTone n) tones tone band.tones one;
  distinct =
      rw map-append
      (IsDistinct-push same_voices (voices tones) tone.voice band.distinct absent);
}

-- a band has at most one tone of each channel and key
pub length-IsBand : (n : ℕ) (tones : List Tone) → IsBand n tones → length tones ≤ MAX_NOTES
length-IsBand n tones band =
    let in_range = All-weaker (IsTone n) (λ tone. IsInRange (voice_of tone))
    (λ tone h. (h.in_range.channel_low, h.in_range.first_low)) tones band.tones in
    let low =
    recursion_from_All IsInRange (voices tones) (All-map IsInRange voice_of tones in_range) in
    let few = length-voices (voices tones) low band.distinct in
    omega (arith, few, length-map tones voice_of)

-- ---- some of the tones

All-voices-cond : (P : Voice → Type 0) (b : Bool) (tone : Tone) (tones : List Tone)
    → P (voice_of tone) → AllByRecursion P (voices tones)
    → AllByRecursion P (voices (cond b (tone ∷ tones) tones))
All-voices-cond P true tone tones h k = (h, k)
All-voices-cond P false tone tones h k = k

All-voices-filter : (P : Voice → Type 0) (test : Tone → Bool) (tones : List Tone)
    → AllByRecursion P (voices tones) → AllByRecursion P (voices (filter test tones))
All-voices-filter P test [] h = tt
All-voices-filter P test (tone ∷ tones) h =
    All-voices-cond P (test tone) tone (filter test tones) h.0 (All-voices-filter P test tones h.1)

distinct-cond : (b : Bool) (tone : Tone) (tones : List Tone)
    → AllByRecursion (λ v. is_same_voice (voice_of tone) v ≡ false) (voices tones)
    → IsDistinct is_same_voice (voices tones) → IsDistinct is_same_voice (voices (cond b (tone ∷ tones) tones))
unfolding IsDistinct
distinct-cond true tone tones h k = (h, k)
distinct-cond false tone tones h k = k

distinct-filter : (test : Tone → Bool) (tones : List Tone)
    → IsDistinct is_same_voice (voices tones) → IsDistinct is_same_voice (voices (filter test tones))
unfolding IsDistinct
distinct-filter test [] h = tt
distinct-filter test (tone ∷ tones) h =
    distinct-cond (test tone) tone (filter test tones) (All-voices-filter _ test tones h.0)
    (distinct-filter test tones h.1)

pub IsBand-filter : (n : ℕ) (test : Tone → Bool) (tones : List Tone)
    → IsBand n tones → IsBand n (filter test tones)
IsBand-filter n test tones band = record {
  tones = All-filter test (IsTone n) tones band.tones;
  distinct = distinct-filter test tones band.distinct;
}

voices-cond : (test : Voice → Bool) (b : Bool) (tone : Tone) (tones : List Tone)
    → voices (cond b (tone ∷ tones) tones) ≡ cond b (voice_of tone ∷ voices tones) (voices tones)
voices-cond test true tone tones = refl
voices-cond test false tone tones = refl

-- the voices of the tones that are left
pub voices-filter : (test : Voice → Bool) (tones : List Tone)
    → voices (filter (λ tone. test (voice_of tone)) tones) ≡ filter test (voices tones)
voices-filter test [] = refl
voices-filter test (tone ∷ tones) =
    voices-cond test (test (voice_of tone)) tone (filter (λ t. test (voice_of t)) tones)
    ∙ ap (λ vs. cond (test (voice_of tone)) (voice_of tone ∷ vs) vs) (voices-filter test tones)

-- ---- one sample later

pub IsReady-tone : (n : ℕ) (tone : Tone) → IsTone n tone → IsInPeriod tone
IsReady-tone n tone h =
    let short = increment-lt tone.voice.key h.in_range.first_low in
    let low : phase_at tone.voice n < PERIOD = mod_below _ PERIOD (lit< tt) in
    record {
      phase = rw h.phase low;
      increment = rw h.increment short;
      velocity = h.in_range.second_low;
    }

pub all-ready : (n : ℕ) (tones : List Tone) → IsBand n tones → All IsInPeriod tones
all-ready n tones band = All-weaker (IsTone n) IsInPeriod (IsReady-tone n) tones band.tones

IsTone-after : (n : ℕ) (tone : Tone) → IsTone n tone → IsTone (n + 1) (tone_after tone)
IsTone-after n tone h =
    let short = increment-lt tone.voice.key h.in_range.first_low in
    record {
      in_range = h.in_range;
      first = let low = h.first in omega arith;
      increment = h.increment;
      phase = rw (h.phase, h.increment) (phase_at-more tone.voice n h.first short);
    }

pub voices-later : (tones : List Tone) → voices (map tone_after tones) ≡ voices tones
voices-later [] = refl
voices-later (tone ∷ tones) = ap (λ vs. voice_of tone ∷ vs) (voices-later tones)

pub IsBand-after : (n : ℕ) (tones : List Tone)
    → IsBand n tones → IsBand (n + 1) (map tone_after tones)
IsBand-after n tones band = record {
  tones =
      All-map (IsTone (n + 1)) tone_after tones
      (All-weaker (IsTone n) (λ tone. IsTone (n + 1) (tone_after tone)) (IsTone-after n) tones
      band.tones);
  distinct = rw (voices-later tones) band.distinct;
}

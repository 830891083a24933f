-- The phase of a voice, from one sample to the next.
use Rattle.std.proofs.Common.{◌≡◌, ℕ, ◌+◌, ◌-◌, ◌*◌, ◌%◌, ◌<◌, ◌≤◌, inl, inr, cond, ltb, ap, ◌∙◌, arith}
use Rattle.std.proofs.lemmas.Bool.{cases_lt, lt-ltb, le-ltb, cond-true, cond-false}
use Rattle.orca_wav.specs.declared.limits.TheConstants.{PERIOD}
use Rattle.orca_wav.specs.declared.voice.Voice.{Voice}
use Rattle.orca_wav.specs.Waves.{phase_step, phase_at}

-- an increment more, by one comparison
phase-add : (x s : ℕ) → s < PERIOD
    → cond (ltb (x % PERIOD + s) PERIOD) (x % PERIOD + s) (x % PERIOD + s - PERIOD) ≡ (x + s) % PERIOD
phase-add x s h =
    elim (cases_lt (x % PERIOD + s) PERIOD) [
      | inl lt ↦ cond-true _ _ _ (lt-ltb _ _ lt) ∙ omega arith
      | inr ge ↦ cond-false _ _ _ (le-ltb _ _ ge) ∙ omega arith
    ]

later : (n first : ℕ) → first ≤ n → n + 1 - first ≡ (n - first) + 1
later n first h = omega arith

pub phase_at-more : (voice : Voice) (n : ℕ) → voice.first ≤ n → phase_step voice.key < PERIOD
    → cond (ltb (phase_at voice n + phase_step voice.key) PERIOD) (phase_at voice n + phase_step voice.key)
    (phase_at voice n + phase_step voice.key - PERIOD)
    ≡ phase_at voice (n + 1)
phase_at-more voice n h short =
    let s = phase_step voice.key in
    let more : (n - voice.first) * s + s ≡ (n + 1 - voice.first) * s =
    rw (later n voice.first h) (omega arith) in
    phase-add ((n - voice.first) * phase_step voice.key) (phase_step voice.key) short
    ∙ ap (λ x. x % PERIOD) more

-- a voice begins at the start of a period
pub phase_at-first : (voice : Voice) → phase_at voice voice.first ≡ 0
phase_at-first voice =
    let none : voice.first - voice.first ≡ 0 = omega arith in rw none (omega arith)

-- The increments of the keys are short.
use Rattle.std.proofs.Common.{◌≡◌, ℕ, ◌*◌, ◌/◌, ◌%◌, ◌^◌, ◌<◌, ◌≤◌, true, leb, get_or, refl, arith, lit<}
use Rattle.std.proofs.lemmas.List.Elements.{All-get_or}
use Rattle.std.proofs.lemmas.List.Sums.{AllPass-from_list_all}
use Rattle.std.proofs.lemmas.Bool.{leb-true}
use Rattle.std.proofs.lemmas.Nat.{mul-le, shl_whole}
use Rattle.std.proofs.Math.Nat.{pow-le-pow_right}
use Rattle.orca_base.specs.declared.limits.TheConstants.{MAX_DATA}
use Rattle.orca_wav.specs.declared.limits.TheConstants.{OCTAVE_KEYS, PITCHES, PERIOD}
use Rattle.orca_wav.specs.Waves.{phase_step}

pub pitch-low : (i : ℕ) → i < OCTAVE_KEYS → get_or PITCHES i 0 ≤ 15804
pitch-low i h =
    leb-true _ _
    (All-get_or (λ pitch. leb pitch 15804 ≡ true) PITCHES i 0 h
    (AllPass-from_list_all (λ pitch. leb pitch 15804) PITCHES refl))

-- the increment is what the shift gives
pub increment-shift : (key : ℕ) → key ≤ MAX_DATA
    → (get_or PITCHES (key % OCTAVE_KEYS) 0 * 2 ^ (key / OCTAVE_KEYS)) % 2 ^ 32 ≡ phase_step key
unfolding phase_step
increment-shift key h =
    let low = pitch-low (key % OCTAVE_KEYS) (omega arith) in
    shl_whole (get_or PITCHES (key % OCTAVE_KEYS) 0) 14 (key / OCTAVE_KEYS) 32
    (omega (arith, low)) (omega arith)

-- an increment is less than a period
pub increment-lt : (key : ℕ) → key ≤ MAX_DATA → phase_step key < PERIOD
unfolding phase_step
increment-lt key h =
    let octaves : key / OCTAVE_KEYS ≤ 10 = omega arith in
    let power : 2 ^ (key / OCTAVE_KEYS) ≤ 2 ^ 10 = pow-le-pow_right (lit< tt) octaves in
    let low = pitch-low (key % OCTAVE_KEYS) (omega arith) in
    let small =
    mul-le (get_or PITCHES (key % OCTAVE_KEYS) 0) (2 ^ (key / OCTAVE_KEYS)) 15804 1024 low power in
    omega (arith, small)

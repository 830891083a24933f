-- A voice whose phase is kept from one sample to the next.
use Rattle.std.specs.Prelude.{◌≡◌, ℕ, ◌+◌, ◌-◌, ◌<◌, ◌≤◌, nat_lt, if◌then◌else◌, List, map, All}
use Rattle.std.specs.Prelude.{ℤ, neg_ℤ}
use Rattle.std.specs.List.{IsDistinct}
use Rattle.orca_base.specs.declared.limits.TheConstants.{MAX_DATA}
use Rattle.orca_base.specs.Ranges.{AreInRange}
use Rattle.orca_wav.specs.declared.limits.TheConstants.{PERIOD, HALF_PERIOD}
use Rattle.orca_wav.specs.declared.tone.Tone.{Tone}
use Rattle.orca_wav.specs.Waves.{phase_step, level, phase_at}
use Rattle.orca_wav.specs.Rendering.{is_same_voice}

-- the tone is in its period, and stays there
pub record IsInPeriod (tone : Tone) : Type 0 where
  pub phase : tone.phase < PERIOD
  pub increment : tone.increment < PERIOD
  pub velocity : tone.voice.velocity ≤ MAX_DATA

-- its value at this phase
abbrev pub value_of : Tone → ℤ
value_of tone =
    if nat_lt tone.phase HALF_PERIOD then level tone.voice else neg_ℤ (level tone.voice)

-- the tone one sample later
abbrev pub tone_after : Tone → Tone
tone_after tone =
    let phase = tone.phase + tone.increment in
    record tone { phase = (if nat_lt phase PERIOD then phase else phase - PERIOD) }

-- the tone of its voice, before sample n of the run
pub record IsTone (n : ℕ) (tone : Tone) : Type 0 where
  pub in_range : AreInRange tone.voice.channel tone.voice.key tone.voice.velocity
  pub first : tone.voice.first ≤ n
  pub increment : tone.increment ≡ phase_step tone.voice.key
  pub phase : tone.phase ≡ phase_at tone.voice n

-- tones of which no two have the same channel and key, before sample n of the run
pub record IsBand (n : ℕ) (band : List Tone) : Type 0 where
  pub tones : All (IsTone n) band
  pub distinct : IsDistinct is_same_voice (map (λ tone. tone.voice) band)

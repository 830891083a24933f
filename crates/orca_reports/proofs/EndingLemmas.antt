-- In which ways songs and waves end a run early.
use Rattle.std.proofs.Common.{◌≡◌, ℕ, ◌+◌, ◌*◌, ◌≤◌, List, [], ◌∷◌, refl, ◌∙◌, arith}
use Rattle.std.specs.Prelude.{fold, IfSome}
use Rattle.std.proofs.lemmas.Bool.{le-ltb}
use Rattle.orca_base.specs.declared.message.Message.{Message}
use Rattle.orca_concert.proofs.EndingLemmas.{Closes, Frames}
use Rattle.orca_course.specs.declared.ending.Stop.{Stop}
use Rattle.orca_course.specs.declared.ending.Stop.TheVariants.{SongTooLong}
use Rattle.orca_wav.specs.declared.limits.TheConstants.{MAX_WAVE_BYTES, SAMPLE_BYTES}
use Rattle.orca_wav.specs.Rendering.{Rendering}
use Rattle.orca_reports.specs.Songs.{SongSoFar, recorded as recorded_course, smf_manner}
use Rattle.orca_reports.specs.Waves.{Wave as WaveSoFar, framed, heard_message, next_size, wav_manner}

-- no report of these ends a run
abbrev pub Never : Stop → Type 0
Never stop = ⊥

-- there is always room
abbrev pub AnyRoom : {R : Type 0} → ℕ → R → Type 0
AnyRoom n r = Unit {0}

-- ---- a song alone can be too long

abbrev pub IsLong : Stop → Type 0
IsLong stop = stop ≡ SongTooLong

pub recorded-ends : (P : Stop → Type 0) (tick : ℕ) (messages : List Message) (r : SongSoFar)
    → P SongTooLong → IfSome (recorded_course tick messages r).ending P
unfolding recorded_course
recorded-ends P tick messages r long = grind arith

pub smf-closes : (P : Stop → Type 0) → P SongTooLong → Closes P smf_manner
smf-closes P long = record {
  final = λ s r. tt;
  close = λ messages r. recorded-ends P r.end messages r long;
  saves = λ r. grind arith;
}

pub smf-frames : Frames IsLong AnyRoom smf_manner
smf-frames line tick n messages r some = (recorded-ends IsLong tick messages r refl, tt)

-- ---- a wave with room for its frames ends no run

-- there is room for so many frames more
abbrev pub WaveRoom : ℕ → WaveSoFar → Type 0
WaveRoom n w = SAMPLE_BYTES * (w.rendering.samples + n * w.frame) ≤ MAX_WAVE_BYTES

-- messages add no sample
fold-samples : (messages : List Message) (s : Rendering)
    → (fold heard_message s messages).samples ≡ s.samples
unfolding heard_message
fold-samples [] s = refl
fold-samples (m ∷ messages) s = fold-samples messages (heard_message s m) ∙ grind arith

framed-room : (n : ℕ) (messages : List Message) (w : WaveSoFar)
    → SAMPLE_BYTES * ((w.rendering.samples + w.frame) + n * w.frame) ≤ MAX_WAVE_BYTES
    → WaveRoom n (framed messages w)
unfolding framed
framed-room n messages w size = rw (fold-samples messages w.rendering) size

pub wav-frames : Frames Never WaveRoom wav_manner
wav-frames line tick n messages w some =
    let size : SAMPLE_BYTES * ((w.rendering.samples + w.frame) + n * w.frame) ≤ MAX_WAVE_BYTES =
    grind (arith, some) in
    let short : next_size w ≤ MAX_WAVE_BYTES = omega (arith, size) in
    rw (le-ltb MAX_WAVE_BYTES (next_size w) short) (tt, framed-room n messages w size)

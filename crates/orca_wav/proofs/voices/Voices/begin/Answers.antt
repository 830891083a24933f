use Rattle.std.proofs.Common.{◌≡◌, false, ◌++◌, ◌∷◌, [], ap, ◌∙◌, arith}
use Rattle.std.proofs.lemmas.List.{length-append}
use Rattle.orca_wav.specs.declared.tone.Tone.{Tone}
use Rattle.orca_wav.specs.Rendering.{Rendering, is_voice_on}
use Rattle.orca_wav.specs.Tones.{IsBand}
use Rattle.orca_wav.proofs.Bands.{voices, IsTone-first, IsBand-push, length-IsBand}
use Rattle.orca_wav.proofs.voices.Voices.begin.Goals as goal
use Rattle.orca_wav.proofs.voices.Voices.begin.Goals.{After-increment_of}

-- the tone that is added
abbrev new : After-increment_of → Tone
new c = record {
  voice = record {
    channel = c.args.channel;
    key = c.args.key;
    velocity = c.args.velocity;
    first = c.self.inside.samples;
  };
  increment = c.increment_of.result;
  phase = 0;
}

band : (c : After-increment_of) → IsBand c.self.inside.samples (c.self.inside.tones.items ++ new c ∷ [])
band c =
    let tones = c.self.inside.tones.items in
    let silent : is_voice_on (voices tones) c.args.channel c.args.key ≡ false =
    ap (λ (s : Rendering). is_voice_on s.voices c.args.channel c.args.key) c.self.view_is
    ∙ c.requires.silent in
    IsBand-push c.self.inside.samples tones (new c) c.self.invariant.0
    (rw c.increment_of.ensures.increment (IsTone-first (new c).voice c.requires.in_range)) silent

-- with the new tone there are no more tones than channels and keys, so there was room for it
pub push_reserved-requires : goal.push_reserved-requires
push_reserved-requires c =
    let tones = c.self.inside.tones.items in
    let few = length-IsBand c.self.inside.samples _ (band c) in
    let size = length-append tones (new c ∷ []) in
    omega (arith, few, size, c.self.inside.tones.ok.0, c.self.invariant.1)

pub invariant_of-self : goal.invariant_of-self
invariant_of-self c = (
  rw c.push_reserved.ensures.items (band c.before),
  omega (arith, c.self.invariant.1, c.push_reserved.ensures.capacity),
)

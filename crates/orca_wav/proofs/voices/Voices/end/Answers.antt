use Rattle.std.proofs.Common.{not, refl, arith}
use Rattle.orca_wav.specs.declared.tone.Tone.{Tone}
use Rattle.orca_wav.specs.Rendering.{is_of}
use Rattle.orca_wav.proofs.Bands.{IsBand-filter, voices-filter}
use Rattle.orca_wav.proofs.voices.Voices.end.Goals as goal

pub invariant_of-self : goal.invariant_of-self
invariant_of-self c =
    let left = λ (tone : Tone). not (is_of c.args.channel c.args.key tone.voice) in
    let band =
    IsBand-filter c.self.inside.samples left c.self.inside.tones.items c.self.invariant.0 in
    (rw c.remove.ensures.tones band, omega (arith, c.self.invariant.1, c.remove.ensures.room))

pub returns : goal.returns
returns c =
    rw (
      ← c.self.view_is,
      c.remove.ensures.tones,
      voices-filter (λ voice. not (is_of c.args.channel c.args.key voice))
          c.self.inside.tones.items,
    )
    refl

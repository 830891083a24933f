use Rattle.std.proofs.Common.{◌≡◌, List, length, map, fold, ℤ, pos, ◌+ℤ◌, refl, sym, ap, ◌∙◌, w32}
use Rattle.std.specs.Int.RustNames.{FitsSigned}
use Rattle.std.specs.Vec.{with_items}
use Rattle.std.proofs.lemmas.List.{with_items_is, length-map}
use Rattle.orca_wav.specs.declared.tone.Tone.{Tone}
use Rattle.orca_wav.specs.Waves.{sample_at}
use Rattle.orca_wav.specs.Rendering.{Rendering}
use Rattle.orca_wav.specs.Tones.{value_of, tone_after}
use Rattle.orca_wav.proofs.Bands.{length-IsBand, all-ready, IsBand-after, voices-later}
use Rattle.orca_wav.proofs.Mixes.{values-voices, cut-fits}
use Rattle.orca_wav.proofs.voices.Voices.sample.Goals as goal
use Rattle.orca_wav.proofs.voices.Voices.sample.Goals.{After-clamp}

pub mix-sum-requires-clause-few : goal.mix-sum-requires-clause-few
mix-sum-requires-clause-few c =
    rw c.deref_mut.ensures.value (length-IsBand c.self.inside.samples _ c.self.invariant.0)

pub mix-sum-requires-clause-ready : goal.mix-sum-requires-clause-ready
mix-sum-requires-clause-ready c =
    rw c.deref_mut.ensures.value (all-ready c.self.inside.samples _ c.self.invariant.0)

-- each tone has moved
later : (c : After-clamp)
    → (with_items c.self.inside.tones c.mix-sum.new.tones).items
    ≡ map tone_after c.self.inside.tones.items
later c =
    let e : c.mix-sum.new.tones ≡ map tone_after c.self.inside.tones.items =
    c.mix-sum.ensures.after ∙ ap (map tone_after) c.deref_mut.ensures.value in
    with_items_is c.self.inside.tones c.mix-sum.new.tones
    (ap length e ∙ (length-map c.self.inside.tones.items tone_after ∙ sym c.self.inside.tones.ok.0))
    ∙ e

pub invariant_of-self : goal.invariant_of-self
invariant_of-self c =
    (rw (later c) (IsBand-after c.self.inside.samples _ c.self.invariant.0), c.self.invariant.1)

pub returns-clause-sample : goal.returns-clause-sample
unfolding sample_at
returns-clause-sample c =
    let fits : FitsSigned w32 c.mix-sum.result = record { sfits = c.mix-sum.type_inv } in
    let total : List ℤ → ℤ = fold ◌+ℤ◌ (pos 0) in
    let sum =
    c.mix-sum.ensures.sum
    ∙ (ap (λ (tones : List Tone). total (map value_of tones)) c.deref_mut.ensures.value
    ∙ ap total (values-voices c.self.inside.samples _ c.self.invariant.0.tones)) in
    cut-fits c.mix-sum.result _ c.clamp.result fits sum c.clamp.ensures.value
    c.clamp.ensures.lower_bound c.clamp.ensures.upper_bound
    ∙ ap (λ (s : Rendering). sample_at s.voices s.samples) c.self.view_is

pub returns-clause-later : goal.returns-clause-later
returns-clause-later c =
    rw (← c.self.view_is, later c, voices-later c.self.inside.tones.items) refl

use Rattle.std.proofs.Common.{◌≡◌, ◌<◌, get_or, length, ap, ◌∙◌, arith}
use Rattle.std.proofs.lemmas.List.{get_or_default}
use Rattle.std.proofs.lemmas.List.Elements.{All-get_or}
use Rattle.std.proofs.lemmas.List.Edits.{map_over_more}
use Rattle.orca_wav.specs.declared.tone.Tone.{Tone}
use Rattle.orca_wav.specs.Tones.{IsInPeriod, value_of, tone_after}
use Rattle.orca_wav.proofs.Mixes.{IsWithin, IsWithin-value, fold-more, get_or-left, added, added-within}
use Rattle.orca_wav.proofs.tone.mix.Goals as goal
use Rattle.orca_wav.proofs.tone.mix.Goals.{After-take-sum}

-- what an index past the end would give
abbrev none : Tone
none = record {
  voice = record { channel = 0; key = 0; velocity = 0; first = 0 };
  increment = 0;
  phase = 0;
}

few : (c : After-take-sum) → c.loop-tone.tone-index < 2048
few c = omega (arith, c.requires.few)

-- the tone is still as it was
as_was : (c : After-take-sum) → get_or c.loop-tone.tones c.loop-tone.tone-index none
    ≡ get_or c.args.tones.now c.loop-tone.tone-index none
as_was c =
    get_or-left c.args.tones.now c.loop-tone.tones c.loop-tone.tone-index none
    c.loop-tone-test.true c.loop-tone.invariant.after

value : (c : After-take-sum)
    → c.take-sum.result ≡ value_of (get_or c.args.tones.now c.loop-tone.tone-index none)
value c = c.take-sum.ensures.value ∙ ap value_of (as_was c)

within : (c : After-take-sum) → IsWithin 8128 c.take-sum.result
within c =
    let old = c.args.tones.now in
    let i = c.loop-tone.tone-index in
    let ready = All-get_or IsInPeriod old i none c.loop-tone-test.true c.requires.ready in
    rw (value c) (IsWithin-value (get_or old i none) ready.velocity)

pub loop-tone-preserved : goal.loop-tone-preserved
loop-tone-preserved c =
    let old = c.args.tones.now in
    let i = c.loop-tone.tone-index in
    let more = fold-more old i none c.loop-tone-test.true in
    let inside : i < length c.loop-tone.tones =
    omega (arith, c.loop-tone.auto.tones, c.loop-tone-test.true) in
    record {
      sum =
          added _ c.take-sum.result _ _ _ i (few c) c.loop-tone.invariant.sum (value c) more
          c.loop-tone.invariant.within (within c);
      after =
          rw c.take-sum.ensures.after
          (map_over_more tone_after old c.loop-tone.tones i (get_or c.loop-tone.tones i none)
          c.loop-tone-test.true c.loop-tone.invariant.after
          (get_or_default c.loop-tone.tones i none _ inside));
      within = added-within _ c.take-sum.result i (few c) c.loop-tone.invariant.within (within c);
    }

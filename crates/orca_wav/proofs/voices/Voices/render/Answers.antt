use Rattle.std.proofs.Common.{◌≡◌, ◌+◌, ◌++◌, refl, sym, ap, ◌∙◌, append_assoc, arith, add-zero, w16}
use Rattle.std.specs.Int.RustNames.{FitsSigned}
use Rattle.std.proofs.lemmas.List.{append-nil}
use Rattle.orca_wav.specs.Waves.{sample_at, sample_bytes}
use Rattle.orca_wav.specs.Rendering.{Rendering, rendering_of, next_bytes}
use Rattle.orca_wav.proofs.Samples.{next_bytes-none, next_bytes-more, two_bytes, pushed}
use Rattle.orca_wav.proofs.Runs.{Renders-samples}
use Rattle.orca_wav.proofs.voices.Voices.render.Goals as goal
use Rattle.orca_wav.proofs.voices.Voices.render.Goals.{After-push_reserved-in-loop}

pub loop-init : goal.loop-init
loop-init c = record {
  later = rw add-zero refl;
  bytes = rw (next_bytes-none c.args.self.now, append-nil) c.reserve.ensures.items;
  size = omega (arith, c.reserve.ensures.len);
}

-- the bytes of the sample stand after those before it
bytes : (c : After-push_reserved-in-loop)
    → c.push_reserved-in-loop.new.self.items
    ≡ c.args.into.now.items ++ next_bytes c.args.self.now (c.loop.counter + 1)
bytes c =
    let s = c.args.self.now in
    let n = c.loop.counter in
    let fits : FitsSigned w16 c.sample.result = record { sfits = c.sample.type_inv } in
    let two = two_bytes c.sample.result c.to_le_bytes.result fits c.to_le_bytes.ensures in
    let sample : c.sample.result ≡ sample_at s.voices (s.samples + n) =
    c.sample.ensures.sample
    ∙ ap (λ (now : Rendering). sample_at now.voices now.samples) c.loop.invariant.later in
    pushed c.loop.into.items c.push_reserved.new.self.items _ _ _ c.push_reserved.ensures.items
    c.push_reserved-in-loop.ensures.items
    ∙ (ap (λ bs. c.loop.into.items ++ bs) (two ∙ ap sample_bytes sample)
    ∙ (ap (λ bs. bs ++ sample_bytes (sample_at s.voices (s.samples + n))) c.loop.invariant.bytes
    ∙ (append_assoc c.args.into.now.items (next_bytes s n) _
    ∙ ap (λ bs. c.args.into.now.items ++ bs) (sym (next_bytes-more s n)))))

pub loop-preserved : goal.loop-preserved
loop-preserved c = record {
  later =
      rw (c.sample.ensures.later, c.loop.invariant.later)
      (ap (λ n. rendering_of n c.args.self.now.voices) (omega arith));
  bytes = bytes c;
  size =
      omega (
        arith,
        c.push_reserved.ensures.len,
        c.push_reserved-in-loop.ensures.len,
        c.loop.invariant.size,
      );
}

pub returns-clause-run : goal.returns-clause-run
returns-clause-run c = λ messages bytes.
    let s = c.args.self.now in
    let end : c.loop.counter ≡ c.args.count = omega arith in
    Renders-samples messages s c.loop.self c.args.count bytes
    (c.loop.invariant.later ∙ ap (λ n. rendering_of (s.samples + n) s.voices) end)

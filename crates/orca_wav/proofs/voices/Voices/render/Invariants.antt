use Rattle.std.proofs.Common.{◌≡◌, ◌+◌, ◌*◌, ◌++◌, vec_len}
use Rattle.orca_wav.specs.Rendering.{rendering_of, next_bytes}
use Rattle.orca_wav.proofs.voices.Voices.render.Given as goal

-- the samples so far stand after what was there, and there is room for those to come
abbrev pub invariant-loop : goal.invariant-loop
invariant-loop l = record {
  later : l.self ≡ rendering_of (l.fn.self.samples + l.counter) l.fn.self.voices;
  bytes : l.into.items ≡ l.fn.into.items ++ next_bytes l.fn.self l.counter;
  size : vec_len l.into ≡ vec_len l.fn.into + 2 * l.counter;
}

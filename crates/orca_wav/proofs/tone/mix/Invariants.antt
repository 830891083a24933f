use Rattle.std.proofs.Common.{◌≡◌, ◌*◌, ◌++◌, map, take, drop, pos, ◌+ℤ◌, fold}
use Rattle.orca_wav.specs.Tones.{value_of, tone_after}
use Rattle.orca_wav.proofs.Mixes.{IsWithin}
use Rattle.orca_wav.proofs.tone.mix.Given as goal

-- the sum of the tones so far, which have moved; each adds at most 64 * 127
abbrev pub invariant-loop-tone : goal.invariant-loop-tone
invariant-loop-tone l = record {
  sum : l.sum ≡ fold ◌+ℤ◌ (pos 0) (map value_of (take l.tone-index l.fn.tones));
  after : l.tones ≡ map tone_after (take l.tone-index l.fn.tones) ++ drop l.tone-index l.fn.tones;
  within : IsWithin (8128 * l.tone-index) l.sum;
}

use Rattle.std.proofs.Common.{◌≡◌, ◌+◌, ◌*◌, ◌++◌, length, take}
use Rattle.osc_bytes.specs.OscBytes.{arguments}
use Rattle.osc_bytes.proofs.push_integers.Given as goal

-- the values so far stand after what was there, four bytes each
abbrev pub invariant-loop-value : goal.invariant-loop-value
invariant-loop-value l = record {
  written : l.into ≡ l.fn.into ++ arguments (take l.value-index l.values);
  size : length l.into ≡ length l.fn.into + 4 * l.value-index;
}

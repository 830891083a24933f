use Rattle.std.proofs.Common.{◌≡◌, ◌+◌, length, map}
use Rattle.orca_base.specs.Glyphs.{value}
use Rattle.orca_op.specs.EventRules.{ports}
use Rattle.ops_io.proofs.osc_message.read_values.Given as goal

-- the values so far are those of the ports that were passed
abbrev pub invariant-loop-i : goal.invariant-loop-i
invariant-loop-i g l = record {
  values : l.values ≡ map value (ports (g.B.Bench.slate l.bench).scan l.at 3 l.i);
  size : length l.values ≡ l.i;
  steps : l.steps ≡ l.initial.steps + l.i;
}

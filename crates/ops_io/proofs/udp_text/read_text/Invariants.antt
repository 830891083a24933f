use Rattle.std.proofs.Common.{◌≡◌, ◌+◌, length, ◌<◌, ℕ, false}
use Rattle.std.specs.Prelude.{◌==◌}
use Rattle.orca_base.specs.Glyphs.{empty}
use Rattle.orca_op.specs.EventRules.{port, ports}
use Rattle.ops_io.proofs.udp_text.read_text.Given as goal

-- the text so far are the glyphs of the ports that were passed, none of which is empty
abbrev pub invariant-loop-i : goal.invariant-loop-i
invariant-loop-i g l = record {
  text : l.text ≡ ports (g.B.Bench.slate l.bench).scan l.at 1 l.i;
  full : (k : ℕ) → k < l.i → (port (g.B.Bench.slate l.bench).scan l.at (k + 1) == empty) ≡ false;
  size : length l.text ≡ l.i;
  steps : l.steps ≡ l.initial.steps + l.i;
}

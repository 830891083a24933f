use Rattle.std.proofs.Common.{◌≡◌, ◌+◌, ◌++◌}
use Rattle.std.specs.Prelude.{map, vec_capacity}
use Rattle.orca_op.specs.State.{state_glyph}
use Rattle.orca_board.specs.Blocks.{row_run}
use Rattle.orca_board.proofs.blocks.read_run.Given as goal

-- the glyphs of the first places are read
abbrev pub invariant-loop-i : goal.invariant-loop-i
invariant-loop-i g l = record {
  glyphs : l.into.items
      ≡ l.initial.into.items ++ map (state_glyph (g.B.Bench.slate l.bench).scan) (row_run l.at l.i);
  capacity : vec_capacity l.into ≡ vec_capacity l.initial.into;
  steps : l.steps ≡ l.initial.steps + l.i;
}

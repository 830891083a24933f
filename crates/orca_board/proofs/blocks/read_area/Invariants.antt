use Rattle.std.proofs.Common.{◌≡◌, ◌+◌, ◌*◌}
use Rattle.std.specs.Prelude.{map, vec_capacity}
use Rattle.orca_op.specs.State.{state_glyph}
use Rattle.orca_board.proofs.RunLemmas.{first_rows}
use Rattle.orca_board.proofs.blocks.read_area.Given as goal

-- the glyphs of the first rows are read
abbrev pub invariant-loop-row : goal.invariant-loop-row
invariant-loop-row g l = record {
  glyphs : l.into.items
      ≡ map (state_glyph (g.B.Bench.slate l.bench).scan) (first_rows l.area l.row);
  capacity : vec_capacity l.into ≡ vec_capacity l.initial.into;
  steps : l.steps ≡ l.initial.steps + l.row * l.area.w;
}

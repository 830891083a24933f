use Rattle.std.proofs.Common.{◌≡◌, ◌+◌, ◌*◌, length, take}
use Rattle.orca_checkpoints.proofs.slot.copy_row.Given as goal

-- the glyphs up to this column of the row
abbrev pub invariant-loop-x : goal.invariant-loop-x
invariant-loop-x g l = record {
  row : take (l.y * l.fn.dims.w + l.x) l.cells
      ≡ take (l.y * l.fn.dims.w + l.x) (g.T.Look.sheet l.look).cells;
  whole : length l.cells ≡ length (g.T.Look.sheet l.look).cells;
}

use Rattle.std.proofs.Common.{◌≡◌, ◌*◌, ◌≤◌, length, take}
use Rattle.std.specs.Prelude.{vec_capacity}
use Rattle.orca_base.specs.declared.limits.TheConstants.{MAX_CELLS}
use Rattle.orca_checkpoints.proofs.slot.Slot.fill.Given as goal

-- the rows so far
abbrev pub invariant-loop-y : goal.invariant-loop-y
invariant-loop-y g l = record {
  rows : take (l.y * l.dims.w) l.self-inside.cells.items
      ≡ take (l.y * l.dims.w) (g.T.Look.sheet l.look).cells;
  whole : length l.self-inside.cells.items ≡ length (g.T.Look.sheet l.look).cells;
  room : MAX_CELLS ≤ vec_capacity l.self-inside.cells;
  size : l.self-inside.dims ≡ l.dims;
  tick : l.self-inside.tick ≡ l.tick;
}

use Rattle.std.proofs.Common.{ℕ, ◌≡◌, ◌&&◌, length}
use Rattle.std.specs.Prelude.{if◌then◌else◌, nat_le, nat_lt, slice_index}
use Rattle.orca_base.specs.Glyphs.{empty}
use Rattle.orca_base.specs.declared.limits.TheConstants.{MAX_CELLS}
use Rattle.orca_board.specs.Board.{AreLive}
use Rattle.orca_board.proofs.field.wipe_row.Given as goal

-- the cells so far are empty
abbrev pub invariant-loop-i : goal.invariant-loop-i
invariant-loop-i l = record {
  whole : length l.cells ≡ MAX_CELLS;
  cells : (n : ℕ) → slice_index l.cells n
      ≡ (if nat_le l.fn.first n && nat_lt n l.i then empty else slice_index l.initial.cells n);
  live : AreLive l.cells l.live;
}

use Rattle.std.proofs.Common.{◌≡◌, ◌+◌, length, take}
use Rattle.orca_op.specs.Slate.{slate_after_all}
use Rattle.orca_board.specs.Sizes.{cut_places, slate_after_resize}
use Rattle.orca_patch.proofs.Undoing.{writes_of}
use Rattle.orca_patch.proofs.patch.Patch.undo_on.Given as goal

-- the first old glyphs are written
abbrev pub invariant-loop-change : goal.invariant-loop-change
invariant-loop-change g l = record {
  slate : l.board ≡ slate_after_all (slate_after_resize l.fn.board l.self-inside.dims)
      (writes_of (take l.change-index l.self-inside.changes.items));
  steps : l.steps ≡ l.fn.steps
      + length (cut_places l.fn.board.scan.dims l.self-inside.dims) + l.change-index;
}

use Rattle.std.proofs.Common.{ℕ, ◌≡◌, ◌+◌, true, false, length, take}
use Rattle.std.specs.Prelude.{All}
use Rattle.orca_base.specs.declared.limits.TheConstants.{MAX_CELLS}
use Rattle.orca_base.specs.declared.place.Place.{Place}
use Rattle.orca_base.specs.Grids.{IsInside, largest}
use Rattle.orca_op.specs.Slate.{is_listed}
use Rattle.orca_board.specs.Board.{AreLive, cell_in}
use Rattle.orca_board.specs.Listing.{places_of}
use Rattle.orca_board.proofs.field.restore.Given as goal

-- the changes so far are put back
abbrev pub invariant-loop-change : goal.invariant-loop-change
invariant-loop-change g l = record {
  whole : length l.cells ≡ MAX_CELLS;
  olds : (old : Place → ℕ) → All (λ change. change.old ≡ old change.at) l.changes → (at : Place)
      → IsInside largest at
      → is_listed (places_of (take l.change-index l.changes)) at ≡ true → cell_in l.cells at
      ≡ old at;
  others : (at : Place) → IsInside largest at
      → is_listed (places_of (take l.change-index l.changes)) at ≡ false
      → cell_in l.cells at ≡ cell_in l.fn.cells at;
  live : AreLive l.cells l.live;
  steps : l.steps ≡ l.initial.steps + l.change-index;
}

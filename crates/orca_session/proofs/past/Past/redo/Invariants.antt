use Rattle.std.proofs.Common.{◌≡◌, ◌+◌, ◌-◌, ◌≤◌, length}
use Rattle.orca_edit.specs.Prices.{kept_cells, price, total}
use Rattle.std.specs.Prelude.{sum_by}
use Rattle.std.specs.List.{range_with_len}
use Rattle.orca_op.specs.Slate.{residue}
use Rattle.orca_op.specs.State.{sheet_of}
use Rattle.orca_session.specs.Past.{brought_back, piece_with, plain_machine}
use Rattle.orca_session.specs.Views.{past_of}
use Rattle.orca_session.proofs.RedoPrices.{AreBack}
use Rattle.orca_session.proofs.past.Past.redo.Given as goal

-- the board and the tick are those after the entries that were done again, the checkpoints are
-- those of the history that comes back, and all of it was paid for
abbrev pub invariant-loop-at : goal.invariant-loop-at
invariant-loop-at g l =
    let n = length l.fn.self.trail.entries in
    record {
      sheet : sheet_of l.board.scan ≡ (piece_with l.fn.self l.at).sheet;
      tick : l.tick ≡ (piece_with l.fn.self l.at).tick;
      same : past_of l.self-inside ≡ record l.fn.self { points = l.self-inside.checkpoints };
      points : AreBack l.fn.self l.at l.self-inside.checkpoints;
      price : l.steps + residue l.board
          ≤ l.initial.steps + residue l.initial.board
          + total price (plain_machine (brought_back l.fn.self)) (n - 1) (n - 1 + l.at)
          + sum_by (kept_cells l.fn.self.points.spacing (plain_machine (brought_back l.fn.self)))
          (range_with_len n l.at);
    }

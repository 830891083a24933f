use Rattle.std.proofs.Common.{◌≡◌, ◌+◌, ◌-◌, ◌≤◌}
use Rattle.orca_edit.specs.Prices.{kept_cells, price, total}
use Rattle.std.specs.Prelude.{sum_by}
use Rattle.std.specs.List.{range_with_len}
use Rattle.orca_op.specs.Slate.{residue}
use Rattle.orca_op.specs.State.{sheet_of}
use Rattle.orca_session.specs.Past.{left_by, moment_of, plain_machine}
use Rattle.orca_session.specs.Views.{past_of}
use Rattle.orca_session.proofs.RetractPrices.{AreOnWay}
use Rattle.orca_session.proofs.past.Past.retract.Given as goal

-- the board and the tick are those of the moment that was reached without the entry, the
-- checkpoints are those of the moments up to it, and all of it was paid for
abbrev pub invariant-loop-at : goal.invariant-loop-at
invariant-loop-at g l =
    let after = plain_machine (left_by l.fn.self l.moment) in
    record {
      above : l.moment ≤ l.at;
      sheet : sheet_of l.board.scan ≡ (moment_of (left_by l.fn.self l.moment) l.at).sheet;
      tick : l.tick ≡ (moment_of (left_by l.fn.self l.moment) l.at).tick;
      same : past_of l.self-inside ≡ record l.fn.self { points = l.self-inside.checkpoints };
      points : AreOnWay l.fn.self l.moment l.at l.self-inside.checkpoints;
      price : l.steps + residue l.board
          ≤ l.initial.steps + residue l.initial.board + total price after l.moment l.at
          + sum_by (kept_cells l.fn.self.points.spacing after)
          (range_with_len (l.moment + 1) (l.at - l.moment));
    }

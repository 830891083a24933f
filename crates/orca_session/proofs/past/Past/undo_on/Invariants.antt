use Rattle.std.proofs.Common.{◌≡◌, ◌+◌, ◌<◌, ◌≤◌, length}
use Rattle.orca_edit.specs.Prices.{change_price, total}
use Rattle.orca_op.specs.Slate.{residue}
use Rattle.orca_op.specs.State.{sheet_of}
use Rattle.orca_session.specs.Past.{moment_of, plain_machine}
use Rattle.orca_session.proofs.past.Past.undo_on.Given as goal

-- the board and the tick are those of the moment that was reached, and the entries from there on
-- were paid for
abbrev pub invariant-loop-at : goal.invariant-loop-at
invariant-loop-at g l = record {
  above : l.moment ≤ l.at;
  within : l.at ≤ length l.self.trail.entries;
  sheet : sheet_of l.board.scan ≡ (moment_of l.self l.at).sheet;
  tick : l.at < length l.self.trail.entries → l.tick ≡ (moment_of l.self l.at).tick;
  price : l.steps + residue l.board
      ≤ l.initial.steps + residue l.initial.board
      + total change_price (plain_machine l.self) l.at (length l.self.trail.entries);
}

abbrev pub decreases-loop-at : goal.decreases-loop-at
decreases-loop-at g l = l.at

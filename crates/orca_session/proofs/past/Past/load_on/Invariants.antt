use Rattle.std.proofs.Common.{◌≡◌, ◌+◌, ◌≤◌}
use Rattle.orca_edit.specs.Prices.{price, total}
use Rattle.orca_op.specs.Slate.{residue}
use Rattle.orca_op.specs.State.{sheet_of}
use Rattle.orca_session.specs.Past.{moment_of, plain_machine}
use Rattle.orca_session.proofs.past.Past.load_on.Given as goal

-- the board and the tick are those of the moment that was reached, and the entries up to it were
-- paid for
abbrev pub invariant-loop-at : goal.invariant-loop-at
invariant-loop-at g l = record {
  above : l.initial.at ≤ l.at;
  sheet : sheet_of l.board.scan ≡ (moment_of l.self l.at).sheet;
  tick : l.tick ≡ (moment_of l.self l.at).tick;
  price : l.steps + residue l.board
      ≤ l.initial.steps + residue l.initial.board
      + total price (plain_machine l.self) l.initial.at l.at;
}

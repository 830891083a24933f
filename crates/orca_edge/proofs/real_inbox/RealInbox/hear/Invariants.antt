use Rattle.std.proofs.Common.{◌≡◌, length}
use Rattle.orca_edge.proofs.real_inbox.RealInbox.hear.Given as goal

-- there are as many seats as before, and the clock is the same
abbrev pub invariant-loop : goal.invariant-loop
invariant-loop g l = record {
  count : length l.hands.hands.items ≡ length l.initial.hands.hands.items;
  clock : l.self.1.0 ≡ l.initial.self.1.0;
}

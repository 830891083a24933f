use Rattle.std.proofs.Common.{◌≡◌, ◌+◌, ◌++◌, false, length, map, replicate}
use Rattle.orca_edge.specs.Names.{is_of_file}
use Rattle.orca_edge.proofs.real_inbox.accept_all.Given as goal

-- there is one hand more for each connection so far, and it is not of a file
abbrev pub invariant-loop-hand : goal.invariant-loop-hand
invariant-loop-hand g l = record {
  count : length l.opened.hands.items ≡ length l.initial.opened.hands.items + l._hand;
  connections : map is_of_file l.opened.hands.items
      ≡ map is_of_file l.initial.opened.hands.items ++ replicate l._hand false;
}

use Rattle.std.specs.Prelude.{◌≡◌, ◌≤◌, ◌+◌, ◌⊎◌, [], None, true, length}
use Rattle.orca_edge.specs.Heard.{AreHeard}
use Rattle.orca_edge.proofs.hands.Hands.wait.Given as goal

-- no stream has given a byte so far, and no other moment is waited for; after a moment each hand is
-- read before one is answered
abbrev pub invariant-loop : goal.invariant-loop
invariant-loop g l = record {
  due : (l.due ≡ None) ⊎ (l.due ≡ l.initial.until);
  reads : l.initial.was_due ≡ true
      → ((l.due ≡ None) × (length l.initial.self.hands.items ≤ l.self.reads + l.unread))
      ⊎ (length l.initial.self.hands.items ≤ l.self.reads);
  heard : AreHeard g.S.Read.remaining l.initial.self.hands.items l.self.hands.items (λ _. []);
}

use Rattle.std.proofs.Common.{◌≡◌, ℕ, List, ◌++◌, length}
use Rattle.std.specs.Io.KnownBytes.{Appends}
use Rattle.orca_web.proofs.outgoing.Outgoing.send_payload.Given as goal

-- what is gone from the rest was written, and the rest is owed
abbrev pub invariant-loop-rest : goal.invariant-loop-rest
invariant-loop-rest g l = record {
  sent : (done : List ℕ) × (l.initial.rest ≡ done ++ l.rest)
      × Appends (g.W.Write.contents l.initial.to) (g.W.Write.contents l.to) done;
  owed : l.self.owed ≡ length l.rest;
  header : l.self.header ≡ l.initial.self.header;
  reply : l.self.reply ≡ l.initial.self.reply;
}

abbrev pub decreases-loop-rest : goal.decreases-loop-rest
decreases-loop-rest g l = length l.rest

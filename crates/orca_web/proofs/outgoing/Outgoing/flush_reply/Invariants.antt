use Rattle.std.proofs.Common.{◌≡◌, length}
use Rattle.std.specs.Io.KnownBytes.{Keeps}
use Rattle.orca_web.specs.Wire.{held}
use Rattle.orca_web.proofs.outgoing.Outgoing.flush_reply.Given as goal

-- what was taken is written
abbrev pub invariant-loop-to : goal.invariant-loop-to
invariant-loop-to g l = record {
  still : Keeps (held g.W.Write.contents l.initial.to l.initial.self) (held g.W.Write.contents l.to l.self);
  owed : l.self.owed ≡ l.initial.self.owed;
  header : l.self.header ≡ l.initial.self.header;
}

abbrev pub decreases-loop-to : goal.decreases-loop-to
decreases-loop-to g l = length l.self.reply

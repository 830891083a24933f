use Rattle.std.proofs.Common.{◌≡◌}
use Rattle.std.specs.Io.KnownBytes.{Keeps}
use Rattle.orca_web.specs.Wire.{held}
use Rattle.orca_web.proofs.outgoing.Outgoing.flush_fill.Given as goal

-- what was taken is written
abbrev pub invariant-loop-self : goal.invariant-loop-self
invariant-loop-self g l = record {
  still : Keeps (held g.W.Write.contents l.initial.to l.initial.self) (held g.W.Write.contents l.to l.self);
  header : l.self.header ≡ l.initial.self.header;
  reply : l.self.reply ≡ l.initial.self.reply;
}

abbrev pub decreases-loop-self : goal.decreases-loop-self
decreases-loop-self g l = l.self.owed

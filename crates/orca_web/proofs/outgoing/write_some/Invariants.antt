use Rattle.std.specs.Io.KnownBytes.{Keeps}
use Rattle.orca_web.proofs.outgoing.write_some.Given as goal

-- nothing was written so far
abbrev pub invariant-loop : goal.invariant-loop
invariant-loop g l = Keeps (g.W.Write.contents l.initial.to) (g.W.Write.contents l.to)

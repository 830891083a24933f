use Rattle.std.proofs.Common.{◌≡◌, ℕ, List, []}
use Rattle.std.specs.Io.KnownBytes.{Consumes}
use Rattle.orca_web.specs.Frames.{Message, framed}
use Rattle.orca_web.specs.Hearing.{Hears}
use Rattle.orca_web.proofs.incoming.Incoming.await_keys.Given as goal

-- what came so far was heard, and no key was given
abbrev pub invariant-loop : goal.invariant-loop
invariant-loop g l = record {
  heard : (came : List ℕ)
      × Consumes (g.R.Read.remaining l.initial.from) (g.R.Read.remaining l.from) came
      × Hears l.initial.self l.self came [];
  none : l.self.keys ≡ [];
  reply : (messages : List Message) × (l.reply ≡ framed messages);
}

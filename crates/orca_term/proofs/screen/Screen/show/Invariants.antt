use Rattle.std.proofs.Common.{drop}
use Rattle.orca_term.specs.Forms.{IsReading}
use Rattle.orca_term.specs.Terminal.{after_bytes}
use Rattle.orca_term.proofs.Showing.{LeadsTo}
use Rattle.orca_term.proofs.screen.Screen.show.Given as goal

abbrev pub invariant-loop-byte : goal.invariant-loop-byte
invariant-loop-byte l = record {
  reading : IsReading l.reading;
  leads : LeadsTo l.self l.reading (drop l.byte-index l.bytes) (after_bytes l.initial.self l.bytes);
}

use Rattle.std.proofs.Common.{◌≡◌, ◌+◌, ◌≤◌, drop, length}
use Rattle.orca_term.specs.Forms.{IsNumber}
use Rattle.orca_term.specs.Keys.{numbers_in}
use Rattle.orca_term.proofs.NumberLists.{Follow}
use Rattle.orca_term.proofs.numbers.numbers_in.Given as goal

abbrev pub invariant-loop-byte : goal.invariant-loop-byte
invariant-loop-byte l = record {
  number : IsNumber l.number;
  few : length l.numbers + l.number.digits ≤ l.byte-index;
  rest : numbers_in l.bytes ≡ Follow l.numbers l.number (drop l.byte-index l.bytes);
}

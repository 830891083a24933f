use Rattle.std.proofs.Common.{◌≡◌, ◌+◌, ◌++◌, length, take}
use Rattle.std.specs.List.{All}
use Rattle.orca_term.specs.Picture.{IsPrintable, styled}
use Rattle.orca_term.proofs.strip.Strip.push_text.Given as goal

abbrev pub invariant-loop-byte : goal.invariant-loop-byte
invariant-loop-byte l = record {
  cells : l.self ≡ l.fn.self ++ styled l.style (take l.byte-index l.text);
  len : length l.self ≡ length l.fn.self + l.byte-index;
  printable : All IsPrintable l.self;
}

use Rattle.std.proofs.Common.{◌≡◌, ◌+◌, ◌++◌, length, map, take}
use Rattle.std.specs.List.{All}
use Rattle.orca_term.specs.Picture.{IsPrintableByte}
use Rattle.orca_term.specs.Traffic.{legible}
use Rattle.orca_term.proofs.traffic.push_text.Given as goal

abbrev pub invariant-loop-byte : goal.invariant-loop-byte
invariant-loop-byte l = record {
  words : l.words ≡ l.fn.words ++ map legible (take l.byte-index l.text);
  len : length l.words ≡ length l.fn.words + l.byte-index;
  printable : All IsPrintableByte l.words;
}

use Rattle.std.proofs.Common.{◌≡◌, ◌+◌, ◌++◌, length, map, take}
use Rattle.std.specs.List.{All}
use Rattle.orca_term.specs.Picture.{IsPrintableByte}
use Rattle.orca_term.specs.Traffic.{glyph_of}
use Rattle.orca_term.proofs.traffic.push_values.Given as goal

abbrev pub invariant-loop-value : goal.invariant-loop-value
invariant-loop-value l = record {
  words : l.words ≡ l.fn.words ++ map glyph_of (take l.value-index l.values);
  len : length l.words ≡ length l.fn.words + l.value-index;
  printable : All IsPrintableByte l.words;
}

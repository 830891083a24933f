use Rattle.std.proofs.Common.{◌≡◌, ◌++◌, take}
use Rattle.std.specs.List.{flat_map}
use Rattle.orca_send.specs.Lines.{hex_byte}
use Rattle.orca_send.proofs.lines.push_hex.Given as goal

-- the digits of the bytes so far
abbrev pub invariant-loop-byte : goal.invariant-loop-byte
invariant-loop-byte l =
    l.line.items ≡ l.initial.line.items ++ flat_map hex_byte (take l.byte-index l.bytes)

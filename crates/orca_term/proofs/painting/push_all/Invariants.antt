use Rattle.std.proofs.Common.{◌≡◌, ◌+◌, ◌++◌, take}
use Rattle.std.specs.Vec.{vec_len, vec_capacity}
use Rattle.orca_term.proofs.painting.push_all.Given as goal

abbrev pub invariant-loop-byte : goal.invariant-loop-byte
invariant-loop-byte l = record {
  bytes : l.bytes.items ≡ l.fn.bytes.items ++ take l.byte-index l.more;
  len : vec_len l.bytes ≡ vec_len l.fn.bytes + l.byte-index;
  room : vec_capacity l.bytes ≡ vec_capacity l.fn.bytes;
}

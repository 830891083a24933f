use Rattle.std.proofs.Common.{◌≡◌, ◌++◌, take}
use Rattle.orca_base.proofs.inline.Inline.extend.Given as goal

-- the bytes so far stand after what was there
abbrev pub invariant-loop-byte : goal.invariant-loop-byte
invariant-loop-byte g l = l.self ≡ l.fn.self ++ take l.byte-index l.bytes

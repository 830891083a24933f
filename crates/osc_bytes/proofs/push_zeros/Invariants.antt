use Rattle.std.proofs.Common.{◌≡◌, ◌++◌, replicate}
use Rattle.osc_bytes.proofs.push_zeros.Given as goal

-- the zeros so far stand after what was there
abbrev pub invariant-loop : goal.invariant-loop
invariant-loop l = l.into ≡ l.fn.into ++ replicate l.counter 0

use Rattle.std.proofs.Common.{◌≡◌, ◌∷◌, replicate}
use Rattle.osc_bytes.proofs.type_tags.Given as goal

-- a comma, and a letter for each value so far
abbrev pub invariant-loop : goal.invariant-loop
invariant-loop l = l.tags ≡ 44 ∷ replicate l.counter 105

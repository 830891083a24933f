use Rattle.std.proofs.Common.{◌≡◌, ◌++◌, take}
use Rattle.orca_term.proofs.strokes.Strokes.extend.Given as goal

-- the keys so far stand after what was there
abbrev pub invariant-loop-key : goal.invariant-loop-key
invariant-loop-key l = l.self ≡ l.fn.self ++ take l.key-index l.keys

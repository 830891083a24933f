use Rattle.std.proofs.Common.{◌≡◌, ℕ, ◌<◌, ◌/◌, ◌%◌, [], length, get_or}
use Rattle.orca_wav.specs.declared.limits.TheConstants.{HEADER_BYTES}
use Rattle.orca_wav.proofs.riff.joined.Given as goal

-- the bytes so far are those of the words
abbrev pub invariant-loop-i : goal.invariant-loop-i
invariant-loop-i l =
    (length l.bytes ≡ HEADER_BYTES)
    × ((k : ℕ) → k < l.i → get_or l.bytes k 0 ≡ get_or (get_or l.words (k / 4) []) (k % 4) 0)

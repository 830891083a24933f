use Rattle.std.proofs.Common.{◌≡◌, ℕ, ◌<◌, length, get_or}
use Rattle.orca_board.proofs.listing.forget.Given as goal

-- the rounds before `i` are 0
abbrev pub invariant-loop-i : goal.invariant-loop-i
invariant-loop-i l = record {
  size : length l.rounds ≡ length l.fn.rounds;
  none : (k : ℕ) → k < l.i → get_or l.rounds k 0 ≡ 0;
}

use Rattle.std.proofs.Common.{◌≡◌, ◌+◌, ◌≤◌, ◌++◌, length, map, take}
use Rattle.std.specs.Prelude.{filter}
use Rattle.orca_jam.specs.Crews.{cursor_of, is_here}
use Rattle.orca_jam.proofs.crew.push_cursors.Given as goal

-- the cursors so far stand after those that were there
abbrev pub invariant-loop-player : goal.invariant-loop-player
invariant-loop-player l = record {
  cursors : l.cursors
      ≡ l.fn.cursors ++ map cursor_of (filter is_here (take l.player-index l.players));
  few : length l.cursors ≤ length l.fn.cursors + l.player-index;
}

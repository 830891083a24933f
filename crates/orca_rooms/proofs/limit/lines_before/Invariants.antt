use Rattle.std.proofs.Common.{◌≡◌, ◌+◌, length}
use Rattle.std.specs.Str.Lines.{lines}
use Rattle.orca_rooms.proofs.limit.lines_before.Given as goal

abbrev pub invariant-loop-count : goal.invariant-loop-count
invariant-loop-count l = l.count + length l.lines ≡ length (lines l.room.grid.now) + 1

abbrev pub decreases-loop-count : goal.decreases-loop-count
decreases-loop-count l = length l.lines

use Rattle.orca_cues.proofs.Parting.{Parted}
use Rattle.orca_cues.proofs.rooms.room_parts.Given as goal

abbrev pub invariant-loop-i : goal.invariant-loop-i
invariant-loop-i l = Parted l.text l.i l.begins

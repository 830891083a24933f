use Rattle.std.proofs.Common.{length}
use Rattle.orca_cues.specs.Scripts.{commands_of_cues}
use Rattle.orca_rooms.specs.Sound.{first_commands, sound_script}
use Rattle.orca_rooms.proofs.PrintLemmas.{Prints}
use Rattle.orca_rooms.proofs.printing.print_sound.Given as goal

abbrev pub invariant-loop-asked : goal.invariant-loop-asked
invariant-loop-asked l =
    Prints l.seed (first_commands l.fn.most (commands_of_cues (sound_script l.text)))
    l.fn.into.items l.left l.script l.into.items l.runs

abbrev pub decreases-loop-asked : goal.decreases-loop-asked
decreases-loop-asked l = length l.script

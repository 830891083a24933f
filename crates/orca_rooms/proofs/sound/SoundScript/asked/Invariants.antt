use Rattle.std.proofs.Common.{◌≡◌, ◌+◌, length}
use Rattle.orca_cues.specs.Readable.{AreReadable}
use Rattle.orca_rooms.specs.Sound.{sound_cues}
use Rattle.orca_rooms.proofs.sound.SoundScript.asked.Given as goal

abbrev pub invariant-loop-line : goal.invariant-loop-line
invariant-loop-line l = record {
  readable : AreReadable l.self-inside.number l.self-inside.lines;
  same : sound_cues (l.self-inside.number + 1) l.self-inside.lines
      ≡ sound_cues (l.initial.self-inside.number + 1) l.initial.self-inside.lines;
}

abbrev pub decreases-loop-line : goal.decreases-loop-line
decreases-loop-line l = length l.self-inside.lines

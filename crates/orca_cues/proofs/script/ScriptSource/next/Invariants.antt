use Rattle.std.proofs.Common.{◌≡◌, ◌+◌, length}
use Rattle.orca_cues.specs.Readable.{AreReadable}
use Rattle.orca_cues.specs.Scripts.{cues_of}
use Rattle.orca_cues.proofs.script.ScriptSource.next.Given as goal

abbrev pub invariant-loop-line : goal.invariant-loop-line
invariant-loop-line l = record {
  readable : AreReadable l.self-inside.number l.self-inside.lines;
  format : l.self-inside.format_2 ≡ l.initial.self-inside.format_2;
  same : cues_of l.initial.self-inside.format_2 (l.self-inside.number + 1) l.self-inside.lines
      ≡ cues_of l.initial.self-inside.format_2 (l.initial.self-inside.number + 1)
      l.initial.self-inside.lines;
}

abbrev pub decreases-loop-line : goal.decreases-loop-line
decreases-loop-line l = length l.self-inside.lines

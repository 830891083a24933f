use Rattle.std.proofs.Common.{◌≡◌, drop}
use Rattle.orca_script.specs.LineValues.{none}
use Rattle.orca_script.specs.Readers.{read_on}
use Rattle.orca_script.specs.Reading.{Letters, state}
use Rattle.orca_script.proofs.reader.read_values.Given as goal

-- what is left of the line, read from here on, gives what the whole line gives
abbrev pub invariant-loop-i : goal.invariant-loop-i
invariant-loop-i l = read_on (drop l.i l.line) l.i l.reader
    ≡ read_on l.line 0 (state (Letters l.word l.kinds) none)

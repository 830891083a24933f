use Rattle.std.proofs.Common.{◌≡◌, length}
use Rattle.orca_rig.specs.InMemory.{named, names_differ}
use Rattle.orca_rig.proofs.mem_files.names_differ.Given as goal

-- whether a name stands twice is decided by the files from here on
abbrev pub invariant-loop-rest : goal.invariant-loop-rest
invariant-loop-rest l = names_differ (named l.contents) ≡ names_differ (named l.rest)

abbrev pub decreases-loop-rest : goal.decreases-loop-rest
decreases-loop-rest l = length l.rest

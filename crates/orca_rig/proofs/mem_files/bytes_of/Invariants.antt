use Rattle.std.proofs.Common.{◌≡◌, drop}
use Rattle.std.specs.Ordering.{nat_cmp}
use Rattle.std.specs.Cmp.Lexicographic.{slice_cmp}
use Rattle.std.specs.FinMap.{find}
use Rattle.orca_rig.specs.InMemory.{named}
use Rattle.orca_rig.proofs.mem_files.bytes_of.Given as goal

-- the file is yet to be found among the files from here on
abbrev pub invariant-loop-held : goal.invariant-loop-held
invariant-loop-held l =
    find (slice_cmp nat_cmp) l.name (named l.files)
    ≡ find (slice_cmp nat_cmp) l.name (named (drop l.held-index l.files))

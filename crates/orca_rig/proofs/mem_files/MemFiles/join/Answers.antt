use Rattle.std.proofs.Common.{rules, arith}
use Rattle.orca_rig.proofs.InMemoryLemmas.{has_room_after}
use Rattle.orca_rig.proofs.mem_files.MemFiles.join.Goals as goal

pub returns-clause-appended : goal.returns-clause-appended
returns-clause-appended c = (c.in-Some-false.held.now, search rules, search rules)

pub returns-clause-room : goal.returns-clause-room
returns-clause-room c =
    has_room_after _ _ _ _ _ c.put_file.ensures (grind arith) (grind arith)

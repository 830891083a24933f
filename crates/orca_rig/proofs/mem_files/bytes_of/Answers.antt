use Rattle.std.proofs.lemmas.Grind.{common_steps}
use Rattle.std.proofs.Common.{◌≡◌, true, false, string_bytes, arith}
use Rattle.std.specs.Str.{bytes_eq}
use Rattle.orca_rig.proofs.InMemoryLemmas.{find_here, find_later, get_files_of}
use Rattle.orca_rig.proofs.mem_files.bytes_of.Goals as goal

pub returns-then-eq-clause-first : goal.returns-then-eq-clause-first
returns-then-eq-clause-first c =
    let same : bytes_eq c.args.name.now (string_bytes c.loop-held-item.result.0) ≡ true = cc in
    let here = find_here _ _ _ c.args.name.now c.loop-held-item.is c.loop-held-test.true same in
    (cc)

pub returns-then-eq-clause-held : goal.returns-then-eq-clause-held
returns-then-eq-clause-held c =
    let same : bytes_eq c.args.name.now (string_bytes c.loop-held-item.result.0) ≡ true = cc in
    let here = find_here _ _ _ c.args.name.now c.loop-held-item.is c.loop-held-test.true same in
    rw get_files_of (cc)

pub loop-held-preserved : goal.loop-held-preserved
loop-held-preserved c =
    let other : bytes_eq c.args.name.now (string_bytes c.loop-held-item.result.0) ≡ false = cc in
    let later = find_later _ _ _ c.args.name.now c.loop-held-item.is c.loop-held-test.true other in
    (cc)

pub returns-clause-held : goal.returns-clause-held
returns-clause-held c = rw get_files_of (grind (arith, common_steps))

use Rattle.std.proofs.Common.{arith, rules}
use Rattle.orca_edge.proofs.CommaLemmas.{cut_at_comma}
use Rattle.orca_edge.proofs.real_inbox.file_and_address.Goals as goal

pub returns-in_default-clause-parts : goal.returns-in_default-clause-parts
returns-in_default-clause-parts c =
    let split = cut_at_comma c.args.name.now _ c.rsplit_once.ensures.cases in
    rw (← split) (grind (arith, rules))

pub returns-then-is_file_name-clause-parts : goal.returns-then-is_file_name-clause-parts
returns-then-is_file_name-clause-parts c =
    let split = cut_at_comma c.args.name.now _ c.rsplit_once.ensures.cases in
    rw (← split) (grind (arith, rules))

pub returns-else-is_file_name-clause-parts : goal.returns-else-is_file_name-clause-parts
returns-else-is_file_name-clause-parts c =
    let split = cut_at_comma c.args.name.now _ c.rsplit_once.ensures.cases in
    rw (← split) (grind (arith, rules))

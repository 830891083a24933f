use Rattle.std.proofs.Common.{refl}
use Rattle.orca_rig.proofs.ScheduleLemmas.{answered_taken, answered_none, arrival_taken}
use Rattle.orca_rig.proofs.mem_inbox.answer_next.Goals as goal

pub give-requires : goal.give-requires
give-requires c =
    arrival_taken c.args.until c.args.answers.now.items c.in-Some.answer _ c.requires
    c.in-Some.ensures.taken

pub returns-in-Some-clause-in_order : goal.returns-in-Some-clause-in_order
returns-in-Some-clause-in_order c =
    λ last ordered.
    answered_taken c.args.until last c.args.answers.now.items c.in-Some.answer _
    c.args.bytes.now c.give.result c.requires c.in-Some.ensures.taken ordered
    c.give.ensures.answer

pub returns-in-None-clause-in_order : goal.returns-in-None-clause-in_order
returns-in-None-clause-in_order c =
    λ last ordered.
    answered_none c.args.until last c.args.answers.now.items _ (c.in-None.ensures.none refl)

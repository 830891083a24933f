use Rattle.std.proofs.Common.{sym, ◌∙◌}
use Rattle.orca_rooms.proofs.LimitLemmas.{limit_none, limit_one, limit_two}
use Rattle.orca_rooms.proofs.limit.room_limit.Goals as goal

pub returns-in-None-clause-limit : goal.returns-in-None-clause-limit
returns-in-None-clause-limit c =
    sym (limit_none c.args.script.now (sym c.of-lines.ensures ∙ c.in-None.ensures.steps.0))

pub returns-in-None-next-clause-limit : goal.returns-in-None-next-clause-limit
returns-in-None-next-clause-limit c =
    sym (limit_one c.args.script.now _ _ (sym c.of-lines.ensures ∙ c.in-Some.ensures.steps)
    c.in-None-next.ensures.steps.0)

pub returns-in-Some-next-clause-limit : goal.returns-in-Some-next-clause-limit
returns-in-Some-next-clause-limit c =
    c.limit_given.ensures.limit
    ∙ sym (limit_two c.args.script.now _ _ _ _ (sym c.of-lines.ensures ∙ c.in-Some.ensures.steps)
    c.in-Some-next.ensures.steps)

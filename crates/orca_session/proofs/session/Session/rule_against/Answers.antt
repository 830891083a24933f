use Rattle.std.proofs.Common.{ap, sym, ◌∙◌}
use Rattle.orca_base.specs.Grids.{Sheet}
use Rattle.orca_edit.specs.Obeying.{MachineState}
use Rattle.orca_session.specs.Past.{machine_of}
use Rattle.orca_session.proofs.ObeyLemmas.{rule-of-block, rule-of-history, rule-of-parts}
use Rattle.orca_session.proofs.session.Session.rule_against.Goals as goal

pub returns-in-Some-clause-rule : goal.returns-in-Some-clause-rule
returns-in-Some-clause-rule c =
    rw (← c.self.view_is)
    (let m : MachineState = machine_of c.self.inside.past c.self.inside.clip in
    sym (rule-of-block m c.args.command.now c.in-Some.rule
    (rule-of-parts m _ _ c.args.command.now
    (c.dims-dims.ensures.size ∙ ap (λ (g : Sheet). g.dims) c.self.invariant.grid)
    c.as_ref.ensures.value ∙ (sym c.block_rule.ensures.rule ∙ c.in-Some.is))))

pub returns-in-None-clause-rule : goal.returns-in-None-clause-rule
returns-in-None-clause-rule c =
    rw (← c.self.view_is)
    (let m : MachineState = machine_of c.self.inside.past c.self.inside.clip in
    c.rule_against-on_history.ensures.rule
    ∙ sym (rule-of-history m c.args.command.now
    (rule-of-parts m _ _ c.args.command.now
    (c.dims-dims.ensures.size ∙ ap (λ (g : Sheet). g.dims) c.self.invariant.grid)
    c.as_ref.ensures.value ∙ (sym c.block_rule.ensures.rule ∙ c.in-None.is))))

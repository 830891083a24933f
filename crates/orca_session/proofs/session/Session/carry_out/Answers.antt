use Rattle.std.proofs.Common.{ap, subst, sym, ◌∙◌}
use Rattle.std.specs.Prelude.{IfSome, Option}
use Rattle.orca_base.specs.declared.command.Entry.{Entry}
use Rattle.orca_edit.specs.Editing.{IsGridEdit}
use Rattle.orca_edit.specs.Obeying.{MachineState}
use Rattle.orca_edit.specs.Prices.{pushed}
use Rattle.orca_session.proofs.PayLemmas.{pushed-clip}
use Rattle.orca_session.proofs.ObeyLemmas.{carried-out}
use Rattle.orca_session.proofs.session.Session.carry_out.Goals as goal

pub returns-clause-done : goal.returns-clause-done
returns-clause-done g c command edits =
    let grid : IsGridEdit c.in-Some.entry =
    subst (λ (e : Option Entry). IfSome e IsGridEdit) c.in-Some.is c.requires.edit in
    rw c.in-Some.is
    (carried-out c.args.self.now.machine c.change.new.self.machine c.keep_clip-2.new.self.machine
    command c.args.take c.in_ok-taken.taken c.in-Some.entry edits grid c.in_ok-taken.ensures
    c.in_ok-change.ensures.extended c.keep_clip-2.ensures.machine)

pub returns-clause-kept : goal.returns-clause-kept
returns-clause-kept g c =
    c.keep_clip-2.ensures.kept
    ∙ (c.in_ok-change.ensures.kept
    ∙ (sym (pushed-clip c.change.new.self.machine _ c.args.self.now.kept)
    ∙ ap (λ (m : MachineState). pushed m c.args.self.now.kept)
    (sym c.keep_clip-2.ensures.machine)))

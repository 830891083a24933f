use Rattle.std.proofs.Common.{◌≡◌, ◌+◌, ◌∷◌, drop, sym, ◌∙◌, ap, subst}
use Rattle.std.specs.Prelude.{All}
use Rattle.std.proofs.lemmas.List.{take_all, drop_more}
use Rattle.std.proofs.lemmas.List.Elements.{All-more}
use Rattle.orca_base.specs.declared.command.Command.{Command}
use Rattle.orca_script.specs.Canonical.{line_of, HasValues}
use Rattle.orca_script.proofs.Appending.{extends_more}
use Rattle.orca_script.proofs.runs.push_script.Goals as goal

pub loop-command-preserved : goal.loop-command-preserved
loop-command-preserved c =
    let commands = c.args.commands.now in
    let i = c.loop-command.command-index in
    let x = c.command-item.result in
    let before : drop i commands ≡ x ∷ drop (i + 1) commands =
    drop_more commands i x c.loop-command-test.true
    ∙ ap (λ (first : Command). first ∷ drop (i + 1) commands) (sym c.command-item.is) in
    record {
      grown = extends_more _ _ _ c.loop-command.invariant.grown c.in_ok-add.ensures.grown;
      same = c.in_ok-add.ensures.ok (drop (i + 1) commands)
          ∙ (rw before at c.loop-command.invariant.same);
      values = All-more (λ command. HasValues (line_of command)) commands i x
          c.loop-command-test.true c.loop-command.invariant.values
          (subst (λ command. HasValues (line_of command)) c.command-item.is
          c.in_ok-add.ensures.values);
    }

pub returns-clause-values : goal.returns-clause-values
returns-clause-values c =
    subst (All (λ command. HasValues (line_of command)))
    (take_all c.loop-command.command-index c.args.commands.now c.loop-command-test.false)
    c.loop-command.invariant.values

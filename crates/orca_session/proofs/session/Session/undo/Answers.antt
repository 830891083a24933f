use Rattle.std.proofs.Common.{◌≡◌, Some, ap, sym, subst, ◌∙◌}
use Rattle.std.specs.Prelude.{IsSome}
use Rattle.orca_base.specs.declared.command.Command.TheVariants as command
use Rattle.orca_base.specs.Histories.{last_edit}
use Rattle.orca_history.specs.Trails.{Trail}
use Rattle.orca_session.specs.Session.{SessionState}
use Rattle.orca_edit.proofs.RuleLemmas.{obey-undo}
use Rattle.orca_session.proofs.ObeyLemmas.{some-edit}
use Rattle.orca_session.proofs.PayLemmas.{charge-jump, kept-jump}
use Rattle.orca_session.proofs.session.Session.undo.Given.{Over}
use Rattle.orca_session.proofs.SessionLemmas.{some-not-none}
use Rattle.orca_session.proofs.session.Session.undo.Goals as goal

pub unwrap-moment-requires : goal.unwrap-moment-requires
unwrap-moment-requires g c =
    let last : c.last_edit.result ≡ last_edit c.args.self.now.machine.history =
    c.last_edit.ensures.last
    ∙ (ap (λ (t : Trail). last_edit t.entries) c.history.ensures
    ∙ ap (λ (s : SessionState). last_edit s.machine.history) c.self.view_is) in
    subst IsSome (sym last)
    (some-not-none _ (some-edit c.args.self.now.machine c.requires.allowed))

-- the moment is that of the last edit
last : (g : Over) (c : goal.After-jump g)
    → last_edit c.args.self.now.machine.history ≡ Some c.unwrap-moment.result
last g c =
    sym (c.last_edit.ensures.last
    ∙ (ap (λ (t : Trail). last_edit t.entries) c.history.ensures
    ∙ ap (λ (s : SessionState). last_edit s.machine.history) c.self.view_is))
    ∙ c.unwrap-moment.ensures

pub returns-clause-acts : goal.returns-clause-acts
returns-clause-acts g c = record {
  obeys = obey-undo c.args.self.now.machine c.unwrap-moment.result c.requires.allowed (last g c)
      ∙ c.jump.ensures.jumped;
  plays = c.jump.ensures.plays;
  few_values = c.jump.ensures.few_values;
}

pub returns-clause-kept : goal.returns-clause-kept
returns-clause-kept g c =
    kept-jump c.args.self.now.machine c.args.self.now.kept c.jump.new.self.kept command.Undo
    c.unwrap-moment.result c.jump.result c.jump.new.self.machine c.jump.new.messages
    (obey-undo c.args.self.now.machine c.unwrap-moment.result c.requires.allowed (last g c))
    c.jump.ensures.jumped c.jump.ensures.kept

pub returns-clause-price : goal.returns-clause-price
returns-clause-price g c =
    charge-jump c.args.self.now.machine c.args.self.now.kept command.Undo c.unwrap-moment.result
    c.jump.result c.jump.new.self.machine c.jump.new.messages _ _
    (obey-undo c.args.self.now.machine c.unwrap-moment.result c.requires.allowed (last g c))
    c.jump.ensures.jumped c.jump.ensures.price

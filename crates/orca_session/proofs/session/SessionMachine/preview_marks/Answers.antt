use Rattle.std.proofs.Common.{refl, arith, ap, sym, ◌∙◌}
use Rattle.orca_base.specs.Grids.{Sheet}
use Rattle.orca_session.specs.Past.{present}
use Rattle.orca_session.proofs.PayLemmas.{cut-kept}
use Rattle.orca_session.proofs.PriceLemmas.{pays-back, pays-frame}
use Rattle.orca_session.proofs.session.SessionMachine.preview_marks.Goals as goal

pub returns-clause-price : goal.returns-clause-price
returns-clause-price g c =
    rw (← c.self.view_is)
    (omega (
      arith,
      pays-frame c.self.inside.board c.frame.new.board _ (present c.self.inside.past)
          c.args.steps.now c.frame.new.steps c.frame.ensures.framed c.frame.ensures.most
          (sym c.self.invariant.grid) (sym c.self.invariant.next) (sym c.seed.ensures),
      pays-back c.frame.new.board c.revert.new.self (present c.self.inside.past).sheet.dims
          c.frame.new.steps c.revert.new.steps c.revert.ensures.slate
          (ap (λ (s : Sheet). s.dims) (c.frame.ensures.framed.began ∙ c.self.invariant.grid))
          c.revert.ensures.steps,
      cut-kept c.touch_law.ensures.both (present c.self.inside.past) c.frame.new.board.scan.dims
          (present c.self.inside.past).sheet.dims
          (c.frame.ensures.framed.size ∙ ap (λ (s : Sheet). s.dims) c.self.invariant.grid) refl,
    ))

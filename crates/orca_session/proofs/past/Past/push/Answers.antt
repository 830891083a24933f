use Rattle.std.proofs.Common.{arith, ap, ◌∙◌, sym}
use Rattle.std.proofs.lemmas.Result.{on_err_weaker}
use Rattle.orca_base.specs.Grids.{Sheet}
use Rattle.orca_session.proofs.PriceLemmas.{pays-back}
use Rattle.orca_session.proofs.past.Past.push.Goals as goal

pub returns-then-is_err-clause-paid : goal.returns-then-is_err-clause-paid
returns-then-is_err-clause-paid g c =
    on_err_weaker c.push_changes-pushed.result
    (λ idle. omega (
      arith,
      idle,
      pays-back c.args.board.now c.revert.new.self c.args.dims c.push_changes-pushed.new.steps
          c.revert.new.steps c.revert.ensures.slate
          (ap (λ (s : Sheet). s.dims) c.requires.began ∙ sym c.requires.size)
          c.revert.ensures.steps,
    ))
    c.push_changes-pushed.ensures.idle

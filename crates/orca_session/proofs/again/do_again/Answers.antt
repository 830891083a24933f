use Rattle.std.proofs.Common.{arith, ap}
use Rattle.orca_edit.specs.Prices.{price}
use Rattle.orca_op.specs.Slate.{residue}
use Rattle.orca_session.proofs.PriceLemmas.{is-edit, pays-edit, pays-frame}
use Rattle.orca_session.proofs.again.do_again.Goals as goal
use Rattle.orca_session.proofs.again.do_again.Goals.{in-Frame, in-Reset, in-Hush, in_default}

pub returns-clause-price : goal.returns-clause-price
returns-clause-price g c = λ p sheet tick seed. elim c.match-entry.branch [
  | in-Frame w ↦
      omega (
        arith,
        pays-frame c.args.board.now w.frame.new.board c.args.now p c.args.steps.now
            w.frame.new.steps w.frame.ensures.framed w.frame.ensures.most sheet tick seed,
        ap residue w.board-is,
        w.steps-is,
        ap (price p) w.in-Frame.is,
      )
  | in-Reset w ↦ omega (arith, ap residue w.board-is, w.steps-is)
  | in-Hush w ↦ omega (arith, ap residue w.board-is, w.steps-is)
  | in_default w ↦
      omega (
        arith,
        pays-edit c.touch_law.ensures.pays c.args.board.now w.apply.new.board c.args.entry.now p
            c.args.steps.now w.apply.new.steps
            (is-edit c.args.entry.now w.in_default.not-Reset w.in_default.not-Frame
            w.in_default.not-Hush)
            c.requires.fits sheet w.apply.ensures.steps
            w.apply.ensures.residue,
        ap residue w.board-is,
        w.steps-is,
      )
]

use Rattle.std.specs.Prelude.{Ok, Err}
use Rattle.orca_course.proofs.DoingLemmas.{does_err}
use Rattle.orca_live.proofs.DoneLemmas.{struck_asked, struck_denied}
use Rattle.orca_live.proofs.keyboard.strike.Goals as goal

pub returns-in-Ok : goal.returns-in-Ok
returns-in-Ok g c =
    struck_asked _ _ _ _ _ _ (rw c.around-around.ensures at c.ask.ensures.answer) c.in-Ok.is
    (rw c.around-around.ensures at c.ask.ensures.asked) c.do_wish.ensures

pub returns-in_ok-deny-in-Err : goal.returns-in_ok-deny-in-Err
returns-in_ok-deny-in-Err g c =
    struck_denied _ _ _ _ _ _ _ _ (Ok _) (rw c.around-around.ensures at c.ask.ensures.answer)
    c.in-Err.is c.ask.ensures.denied (rw c.rule.ensures at c.tell.ensures)
    c.in_ok-deny-in-Err.ensures

pub returns-in_err-deny-in-Err : goal.returns-in_err-deny-in-Err
returns-in_err-deny-in-Err g c =
    does_err _ _ c.from_residual.ensures.1
    (struck_denied _ _ _ _ _ _ _ _ (Err _) (rw c.around-around.ensures at c.ask.ensures.answer)
    c.in-Err.is c.ask.ensures.denied (rw c.rule.ensures at c.tell.ensures)
    c.in_err-deny-in-Err.ensures)

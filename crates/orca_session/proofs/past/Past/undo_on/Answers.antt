use Rattle.std.proofs.Common.{◌≡◌, length, arith, ap, sym, ◌∙◌}
use Rattle.orca_session.specs.Past.{PastState, moment_of}
use Rattle.orca_session.specs.Views.{past_of}
use Rattle.orca_session.proofs.PastLemmas.{covers-grid, sheet-present, sheet-undone, undoes-kept}
use Rattle.orca_session.proofs.BillLemmas.{pays-undo}
use Rattle.orca_session.proofs.past.Past.undo_on.Goals as goal

pub loop-at-init : goal.loop-at-init
loop-at-init g c =
    let p : PastState = c.args.self.now in
    let long : c.len-at.result ≡ length p.trail.entries =
    c.len-at.ensures.len ∙ ap (λ (q : PastState). length q.trail.entries) c.self.view_is in
    record {
      above = omega (arith, long, c.requires.within);
      within = omega (arith, long);
      sheet = c.requires.sheet
          ∙ (sheet-present p ∙ sym (ap (λ n. (moment_of p n).sheet) long));
      tick = λ earlier. absurd (omega (arith, long, earlier));
      price = omega arith;
    }

-- the patch leads from the moment that was reached to the one before it
pub undo_on-tick-requires : goal.undo_on-tick-requires
undo_on-tick-requires g c =
    covers-grid c.unwrap.result.now _ _ _ _
    (undoes-kept (past_of c.self.inside) c.args.self.now c.loop-at.at c.unwrap.result.now
    c.self.view_is c.self.invariant (omega (arith, c.loop-at-test.true))
    c.loop-at.invariant.within (rw c.unwrap.ensures at (sym c.patch.ensures.patch)))
    c.loop-at.invariant.sheet

pub loop-at-preserved : goal.loop-at-preserved
loop-at-preserved g c =
    let undoes = undoes-kept (past_of c.self.inside) c.args.self.now c.loop-at.at
    c.unwrap.result.now c.self.view_is c.self.invariant (omega (arith, c.loop-at-test.true))
    c.loop-at.invariant.within (rw c.unwrap.ensures at (sym c.patch.ensures.patch)) in
    record {
      above = omega (arith, c.loop-at-test.true);
      within = omega (arith, c.loop-at.invariant.within);
      sheet = c.undo_on-tick.ensures.sheet
          ∙ sheet-undone c.unwrap.result.now _ _ _ _ undoes c.loop-at.invariant.sheet;
      tick = λ _. c.undo_on-tick.ensures.tick ∙ undoes.tick;
      price = omega (
        arith,
        c.loop-at.invariant.price,
        pays-undo c.args.self.now c.loop-at.at c.unwrap.result.now c.loop-at.board
            c.undo_on-tick.new.board c.loop-at.steps c.undo_on-tick.new.steps undoes
            (omega (arith, c.loop-at-test.true)) c.loop-at.invariant.within
            c.loop-at.invariant.sheet c.undo_on-tick.ensures.steps c.undo_on-tick.ensures.residue,
      );
    }

use Rattle.std.proofs.Common.{◌≡◌, ◌*◌, Some, arith, ap, sym, ◌∙◌, subst}
use Rattle.std.specs.Prelude.{slice_get}
use Rattle.orca_base.specs.Grids.{Sheet}
use Rattle.orca_checkpoints.specs.Points.{best_of}
use Rattle.orca_edit.specs.Editing.{FitsIn}
use Rattle.orca_edit.specs.Pieces.{Piece}
use Rattle.orca_op.specs.State.{sheet_of}
use Rattle.orca_session.specs.Past.{PastState, IsPast, moment_of}
use Rattle.orca_session.proofs.BillLemmas.{pays-load, pays-next}
use Rattle.orca_session.proofs.PastLemmas.{fits-entry, sheet-next, tick-next, tick-moment, seed-moment}
use Rattle.orca_session.proofs.past.Past.load_on.Goals as goal

pub do_again-tick-requires-clause-fits : goal.do_again-tick-requires-clause-fits
do_again-tick-requires-clause-fits g c =
    subst (λ (s : Sheet). FitsIn s.dims c.unwrap-entry.result.now)
    (sym c.loop-at.invariant.sheet)
    (fits-entry c.args.self.now c.loop-at.at c.unwrap-entry.result.now
    (subst IsPast c.self.view_is c.self.invariant)
    (ap (λ (p : PastState). slice_get p.trail.entries c.loop-at.at) (sym c.self.view_is)
    ∙ rw c.unwrap-entry.ensures at (sym c.entry.ensures.entry)))

pub do_again-tick-requires-clause-early : goal.do_again-tick-requires-clause-early
do_again-tick-requires-clause-early g c =
    let p : PastState = c.args.self.now in
    let past : IsPast p = subst IsPast c.self.view_is c.self.invariant in
    omega (
      arith,
      c.loop-at.invariant.tick,
      tick-moment p c.loop-at.at (omega (arith, c.loop-at-test.true, c.requires.within)),
      past.trail.within,
      past.trail.most,
      c.loop-at-test.true,
      c.requires.within,
    )

pub loop-at-preserved : goal.loop-at-preserved
loop-at-preserved g c =
    let p : PastState = c.args.self.now in
    let now : Piece = moment_of p c.loop-at.at in
    let sheet : now.sheet ≡ sheet_of c.loop-at.board.scan = sym c.loop-at.invariant.sheet in
    let tick : now.tick ≡ c.loop-at.tick = sym c.loop-at.invariant.tick in
    let seed : now.seed ≡ c.self.inside.seed =
    seed-moment p c.loop-at.at ∙ sym (ap (λ (q : PastState). q.seed) c.self.view_is) in
    let is : slice_get p.trail.entries c.loop-at.at ≡ Some c.unwrap-entry.result.now =
    ap (λ (q : PastState). slice_get q.trail.entries c.loop-at.at) (sym c.self.view_is)
    ∙ rw c.unwrap-entry.ensures at (sym c.entry.ensures.entry) in
    record {
      above = omega (arith, c.loop-at.invariant.above);
      sheet = c.do_again-tick.ensures.sheet now sheet tick seed
          ∙ sheet-next p c.loop-at.at c.unwrap-entry.result.now is;
      tick = c.do_again-tick.ensures.tick now sheet tick seed
          ∙ tick-next p c.loop-at.at c.unwrap-entry.result.now is;
      price = pays-next p c.best-best.result.moment c.loop-at.at c.unwrap-entry.result.now _ _ _
          c.loop-at.invariant.above is c.loop-at.invariant.price
          (c.do_again-tick.ensures.price now sheet tick seed);
    }

pub returns-clause-price : goal.returns-clause-price
returns-clause-price g c =
    let p : PastState = c.args.self.now in
    pays-load p c.args.moment c.best-best.result.moment c.loop-at.at c.best-best.result.tick
    c.best-best.result.dims c.best-best.result.cells.now c.args.board.now c.loop-at.board
    c.args.steps.now c.load.new.steps c.loop-at.steps
    (subst IsPast c.self.view_is c.self.invariant) c.requires.within
    (subst (λ (q : PastState). slice_get q.points.kept (best_of q.points c.args.moment)
    ≡ Some (record {
      sheet = record { dims = c.best-best.result.dims; cells = c.best-best.result.cells.now };
      tick = c.best-best.result.tick;
    })) c.self.view_is c.best-best.ensures.point)
    (c.best-best.ensures.moment
    ∙ ap (λ (q : PastState). best_of q.points c.args.moment * q.points.spacing) c.self.view_is)
    (omega (arith, c.loop-at-test.false, c.loop-at.auto.at-end, c.best-best.ensures.before))
    c.requires.sheet c.load.ensures.steps
    (omega (arith, c.loop-at.invariant.price, c.load.ensures.clear))

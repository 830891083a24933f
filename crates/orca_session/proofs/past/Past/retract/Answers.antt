use Rattle.std.proofs.Common.{◌≡◌, ◌<◌, ◌+◌, ◌-◌, ◌≤◌, ℕ, Some, length, refl, arith, ap, sym, ◌∙◌, subst}
use Rattle.std.specs.Prelude.{slice_get, sum_by}
use Rattle.std.specs.List.{range_with_len}
use Rattle.orca_base.specs.Grids.{Size, Sheet}
use Rattle.orca_checkpoints.specs.Laws.{AreOf}
use Rattle.orca_checkpoints.specs.Points.{Point, points_dropped}
use Rattle.orca_edit.specs.Editing.{FitsIn}
use Rattle.orca_edit.specs.Pieces.{Piece, apply, silence}
use Rattle.orca_edit.specs.Prices.{kept_cells, kept_retracted, price, retract_price, total}
use Rattle.orca_history.specs.Trails.{IsTrail, trail_retracted}
use Rattle.orca_op.specs.Slate.{residue}
use Rattle.orca_op.specs.State.{sheet_of}
use Rattle.orca_patch.specs.Patches.{Before, no_change}
use Rattle.orca_session.specs.Past.{IsPast, PastState, Undoes, left_by, moment_of, numbers_of, past_retracted, plain_machine, point_at, present}
use Rattle.orca_session.specs.Views.{past_of}
use Rattle.orca_session.proofs.PastLemmas.{seed-moment, sheet-next, tick-moment, tick-next, undoes-nothing}
use Rattle.orca_session.proofs.RetractLemmas.{IsPast-retracted, before_hush, entry-left, fits-entry-left, length-left, point-left, present-left, retracted-parts, sheet-left, tick-left}
use Rattle.orca_session.proofs.RetractPrices.{AreOnWay, numbers-left, way-all, way-cells, way-due, way-next, way-pays, way-start}
use Rattle.orca_session.proofs.past.Past.retract.Given.{Over}
use Rattle.orca_session.proofs.past.Past.retract.Goals as goal

pub loop-at-init : goal.loop-at-init
loop-at-init g c =
    let p : PastState = c.args.self.now in
    let past : IsPast p = subst IsPast c.self.view_is c.self.invariant in
    record {
      above = omega arith;
      sheet = c.load_on-tick.ensures.sheet ∙ sheet-left p c.args.moment c.requires.within;
      tick = c.load_on-tick.ensures.tick ∙ tick-left p c.args.moment c.requires.within;
      same = ap (λ (q : PastState). record q { points = c.drop_above.new.self }) c.self.view_is;
      points = way-start p c.args.moment c.drop_above.new.self past c.requires.within
          (c.drop_above.ensures
          ∙ ap (λ (q : PastState). points_dropped q.points c.args.moment) c.self.view_is);
      price = omega arith;
    }

-- the entry after it that is done again
pub do_again-tick-requires-clause-fits : goal.do_again-tick-requires-clause-fits
do_again-tick-requires-clause-fits g c =
    let p : PastState = c.args.self.now in
    let past : IsPast p = subst IsPast c.self.view_is c.self.invariant in
    let long = ap (λ (q : PastState). length q.trail.entries) c.self.view_is in
    let its = entry-left p c.args.moment c.loop-at.at c.unwrap-entry.result.now
    c.loop-at.invariant.above
    (omega (arith, c.loop-at-test.true, c.len-len.ensures.len, long))
    (ap (λ (q : PastState). slice_get q.trail.entries (c.loop-at.at + 1))
    (sym c.loop-at.invariant.same)
    ∙ rw c.unwrap-entry.ensures at (sym c.entry.ensures.entry)) in
    subst (λ (s : Sheet). FitsIn s.dims c.unwrap-entry.result.now)
    (sym c.loop-at.invariant.sheet)
    (fits-entry-left p c.args.moment c.loop-at.at c.unwrap-entry.result.now past
    c.requires.within c.requires.free its)

pub do_again-tick-requires-clause-early : goal.do_again-tick-requires-clause-early
do_again-tick-requires-clause-early g c =
    let p : PastState = c.args.self.now in
    let past : IsPast p = subst IsPast c.self.view_is c.self.invariant in
    let long = ap (λ (q : PastState). length q.trail.entries) c.self.view_is in
    omega (
      arith,
      c.loop-at.invariant.tick,
      tick-moment (left_by p c.args.moment) c.loop-at.at
          (omega (
            arith,
            c.loop-at-test.true,
            c.len-len.ensures.len,
            long,
            length-left p c.args.moment (no_change p.opened.dims 0) p.points c.requires.within,
          )),
      past.trail.within,
      past.trail.most,
      c.loop-at-test.true,
      c.len-len.ensures.len,
      long,
    )

pub keep_due-requires : goal.keep_due-requires
keep_due-requires g c =
    way-due c.args.self.now c.args.moment c.loop-at.at (c.loop-at.at + 1)
    c.loop-at.self-inside.checkpoints c.loop-at.invariant.points refl

pub loop-at-preserved : goal.loop-at-preserved
loop-at-preserved g c =
    let p : PastState = c.args.self.now in
    let past : IsPast p = subst IsPast c.self.view_is c.self.invariant in
    let m : ℕ = c.args.moment in
    let at : ℕ = c.loop-at.at in
    let left : PastState = left_by p m in
    let now : Piece = moment_of left at in
    let inside = c.loop-at.self-inside in
    let long = ap (λ (q : PastState). length q.trail.entries) c.self.view_is in
    let below : at + 1 < length p.trail.entries =
    omega (arith, c.loop-at-test.true, c.len-len.ensures.len, long) in
    let seed : now.seed ≡ c.self.inside.seed =
    seed-moment left at ∙ sym (ap (λ (q : PastState). q.seed) c.self.view_is) in
    let is : slice_get left.trail.entries at ≡ Some c.unwrap-entry.result.now =
    entry-left p m at c.unwrap-entry.result.now c.loop-at.invariant.above below
    (ap (λ (q : PastState). slice_get q.trail.entries (at + 1)) (sym c.loop-at.invariant.same)
    ∙ rw c.unwrap-entry.ensures at (sym c.entry.ensures.entry)) in
    let sheet = sym c.loop-at.invariant.sheet in
    let tick = sym c.loop-at.invariant.tick in
    let after : sheet_of c.do_again-tick.new.board.scan ≡ (moment_of left (at + 1)).sheet =
    c.do_again-tick.ensures.sheet now sheet tick seed
    ∙ sheet-next left at c.unwrap-entry.result.now is in
    let later : c.do_again-tick.result ≡ (moment_of left (at + 1)).tick =
    c.do_again-tick.ensures.tick now sheet tick seed
    ∙ tick-next left at c.unwrap-entry.result.now is in
    record {
      above = omega (arith, c.loop-at.invariant.above);
      sheet = after;
      tick = later;
      same = ap (λ (q : PastState). record q { points = c.keep_due.new.checkpoints })
          c.loop-at.invariant.same;
      points = way-next p m at (at + 1) inside.checkpoints c.keep_due.new.checkpoints _ past
          c.is_spaced.ensures c.loop-at.invariant.points c.keep_due.ensures.all refl
          (omega (arith, below))
          (ap (λ (s : Sheet). record { sheet = s; tick = c.do_again-tick.result }) after
          ∙ ap (λ (t : ℕ). record { sheet = (moment_of left (at + 1)).sheet; tick = t }) later)
          c.keep_due.ensures.points;
      price = way-pays p m at c.unwrap-entry.result.now _ _ _ c.loop-at.invariant.above is
          c.loop-at.invariant.price
          (omega (
            arith,
            c.do_again-tick.ensures.price now sheet tick seed,
            way-cells p m at (at + 1) inside.checkpoints
                (sheet_of c.do_again-tick.new.board.scan) c.do_again-tick.new.steps
                c.keep_due.new.steps c.loop-at.invariant.points after c.keep_due.ensures.steps,
          ));
    }

pub keep_due-requires-2 : goal.keep_due-requires-2
keep_due-requires-2 g c =
    let long = ap (λ (q : PastState). length q.trail.entries) c.self.view_is in
    way-due c.args.self.now c.args.moment c.loop-at.at c.len-len.result
    c.loop-at.self-inside.checkpoints c.loop-at.invariant.points
    (omega (
      arith,
      c.loop-at-test.false,
      c.loop-at.auto.at-end,
      c.len-len.ensures.len,
      long,
      c.requires.within,
    ))

past : (g : Over) (c : goal.After-keep_due-2 g) → IsPast c.args.self.now
past g c = subst IsPast c.self.view_is c.self.invariant

-- all entries after it moved down
len : (g : Over) (c : goal.After-keep_due-2 g)
    → c.len-len.result ≡ length c.args.self.now.trail.entries
len g c = c.len-len.ensures.len ∙ ap (λ (q : PastState). length q.trail.entries) c.self.view_is

end : (g : Over) (c : goal.After-keep_due-2 g)
    → c.loop-at.at + 1 ≡ length c.args.self.now.trail.entries
end g c =
    omega (arith, c.loop-at-test.false, c.loop-at.auto.at-end, len g c, c.requires.within)

-- the board and the tick are those before the Hush
sheet : (g : Over) (c : goal.After-keep_due-2 g)
    → sheet_of c.loop-at.board.scan ≡ (before_hush c.args.self.now c.args.moment).sheet
sheet g c =
    c.loop-at.invariant.sheet
    ∙ ap (λ (n : ℕ). (moment_of (left_by c.args.self.now c.args.moment) n).sheet)
    (omega (arith, end g c))

tick : (g : Over) (c : goal.After-keep_due-2 g)
    → c.loop-at.tick ≡ (before_hush c.args.self.now c.args.moment).tick
tick g c =
    c.loop-at.invariant.tick
    ∙ ap (λ (n : ℕ). (moment_of (left_by c.args.self.now c.args.moment) n).tick)
    (omega (arith, end g c))

point : (g : Over) (c : goal.After-keep_due-2 g)
    → point_at (left_by c.args.self.now c.args.moment) c.len-len.result
    ≡ record {
      sheet = (before_hush c.args.self.now c.args.moment).sheet;
      tick = (before_hush c.args.self.now c.args.moment).tick;
    }
point g c =
    ap (point_at (left_by c.args.self.now c.args.moment)) (len g c)
    ∙ point-left c.args.self.now c.args.moment c.requires.within

-- the checkpoints up to the Hush
way : (g : Over) (c : goal.After-keep_due-2 g)
    → AreOnWay c.args.self.now c.args.moment c.len-len.result c.keep_due-2.new.checkpoints
way g c =
    let before : Piece = before_hush c.args.self.now c.args.moment in
    way-next c.args.self.now c.args.moment c.loop-at.at c.len-len.result
    c.loop-at.self-inside.checkpoints c.keep_due-2.new.checkpoints _ (past g c)
    c.is_spaced.ensures c.loop-at.invariant.points c.keep_due-2.ensures.all
    (omega (arith, len g c, end g c)) (omega (arith, len g c))
    (ap (λ (s : Sheet). record { sheet = s; tick = c.loop-at.tick }) (sheet g c)
    ∙ (ap (λ (t : ℕ). record { sheet = before.sheet; tick = t }) (tick g c) ∙ sym (point g c)))
    c.keep_due-2.ensures.points

-- the history is that of a Retract
trail : (g : Over) (c : goal.After-keep_due-2 g)
    → c.retract.new.self
    ≡ trail_retracted c.args.self.now.trail c.args.moment c.empty-patch.result
trail g c =
    c.retract.ensures.retracted
    ∙ ap (λ (q : PastState). trail_retracted q.trail c.args.moment c.empty-patch.result)
    c.loop-at.invariant.same

parts : (g : Over) (c : goal.After-keep_due-2 g)
    → record (past_of c.loop-at.self-inside) {
      trail = c.retract.new.self;
      points = c.keep_due-2.new.checkpoints;
    }
    ≡ past_retracted c.args.self.now c.args.moment c.empty-patch.result
    c.keep_due-2.new.checkpoints
parts g c =
    ap (λ (q : PastState). record q {
      trail = c.retract.new.self;
      points = c.keep_due-2.new.checkpoints;
    }) c.loop-at.invariant.same
    ∙ retracted-parts c.args.self.now c.args.moment c.empty-patch.result
    c.keep_due-2.new.checkpoints c.retract.new.self (trail g c)

-- the patch is that of no change
patch : (g : Over) (c : goal.After-keep_due-2 g)
    → c.empty-patch.result ≡ no_change c.loop-at.board.scan.dims c.loop-at.tick
patch g c =
    c.empty-patch.ensures
    ∙ ap (λ (d : Size). no_change d c.loop-at.tick) c.dims.ensures.size

-- it leads from the Hush back to before it
undoes : (g : Over) (c : goal.After-keep_due-2 g)
    → Undoes c.empty-patch.result (before_hush c.args.self.now c.args.moment)
    (before_hush c.args.self.now c.args.moment) 0
undoes g c =
    let now : Piece = before_hush c.args.self.now c.args.moment in
    subst (λ (b : Before). Undoes b now now 0) (sym (patch g c))
    (undoes-nothing c.touch_law.ensures.both (sheet_of c.loop-at.board.scan) c.loop-at.tick now 0
    c.dims.ensures.whole (sheet g c) (tick g c))

pub invariant_of-self : goal.invariant_of-self
invariant_of-self g c =
    let p : PastState = c.args.self.now in
    subst IsPast (sym (parts g c))
    (IsPast-retracted p c.args.moment c.empty-patch.result c.keep_due-2.new.checkpoints
    (past g c) c.requires.within c.requires.free c.patch_laws.ensures.retracted (undoes g c)
    (subst (λ (n : ℕ). AreOf (point_at (left_by p c.args.moment)) n p.peak
    c.keep_due-2.new.checkpoints) (len g c) (way g c).are)
    (subst IsTrail (trail g c) c.retract.ensures.trail))

-- the piece as it stands is that before the Hush, without its notes
stands : (g : Over) (c : goal.After-keep_due-2 g)
    → present (record (past_of c.loop-at.self-inside) {
      trail = c.retract.new.self;
      points = c.keep_due-2.new.checkpoints;
    })
    ≡ silence (before_hush c.args.self.now c.args.moment)
stands g c =
    ap present (parts g c)
    ∙ present-left c.args.self.now c.args.moment c.empty-patch.result
    c.keep_due-2.new.checkpoints c.requires.within

pub returns-clause-sheet : goal.returns-clause-sheet
returns-clause-sheet g c = sheet g c ∙ sym (ap (λ (x : Piece). x.sheet) (stands g c))

pub returns-clause-tick : goal.returns-clause-tick
returns-clause-tick g c = tick g c ∙ sym (ap (λ (x : Piece). x.tick) (stands g c))

pub returns-clause-retracted : goal.returns-clause-retracted
returns-clause-retracted g c =
    parts g c
    ∙ ap (λ (b : Before). past_retracted c.args.self.now c.args.moment b
    c.keep_due-2.new.checkpoints) (patch g c)

pub returns-clause-silent : goal.returns-clause-silent
returns-clause-silent g c = ap (λ (x : Piece). x.notes) (stands g c)

pub returns-clause-numbers : goal.returns-clause-numbers
returns-clause-numbers g c =
    subst (λ (q : PastState). numbers_of q
    ≡ kept_retracted (plain_machine q) (numbers_of c.args.self.now))
    (sym (parts g c))
    (numbers-left c.args.self.now c.args.moment c.empty-patch.result
    c.keep_due-2.new.checkpoints c.requires.within (way g c).spacing)

pub returns-clause-price : goal.returns-clause-price
returns-clause-price g c =
    let p : PastState = c.args.self.now in
    let m : ℕ = c.args.moment in
    let next : c.len-len.result ≡ c.loop-at.at + 1 = len g c ∙ sym (end g c) in
    subst (λ (q : PastState). c.keep_due-2.new.steps + residue c.loop-at.board
    ≤ c.args.steps.now + residue c.args.board.now
    + retract_price (plain_machine p) (numbers_of p) m (plain_machine q))
    (sym (parts g c))
    (way-all p m c.loop-at.at c.empty-patch.result c.keep_due-2.new.checkpoints _ _ _ _
    c.requires.within (end g c) c.load_on-tick.ensures.price c.loop-at.invariant.price
    (omega (
      arith,
      way-cells p m c.loop-at.at c.len-len.result c.loop-at.self-inside.checkpoints
          (sheet_of c.loop-at.board.scan) c.loop-at.steps c.keep_due-2.new.steps
          c.loop-at.invariant.points
          (sheet g c ∙ sym (ap (λ (x : Point). x.sheet) (point g c)))
          c.keep_due-2.ensures.steps,
      ap (kept_cells p.points.spacing (plain_machine (left_by p m))) next,
    )))

use Rattle.std.proofs.Common.{◌≡◌, ◌<◌, ◌+◌, ◌-◌, ◌≤◌, ℕ, Some, length, max, arith, ap, sym, ◌∙◌, subst}
use Rattle.std.specs.Prelude.{slice_get, sum_by}
use Rattle.std.specs.List.{range_with_len}
use Rattle.orca_base.specs.Grids.{Size, Sheet}
use Rattle.orca_base.specs.Histories.{group_of}
use Rattle.orca_checkpoints.specs.Laws.{AreOf}
use Rattle.orca_checkpoints.specs.Points.{Point, points_dropped}
use Rattle.orca_edit.specs.Editing.{FitsIn}
use Rattle.orca_edit.specs.Pieces.{Piece, apply}
use Rattle.orca_edit.specs.Prices.{kept_cells, price, redo_price, kept_redone, total}
use Rattle.orca_history.specs.Trails.{IsTrail, Trail, trail_redone}
use Rattle.orca_op.specs.Slate.{residue}
use Rattle.orca_op.specs.State.{sheet_of}
use Rattle.orca_patch.specs.Patches.{Before, no_change}
use Rattle.orca_session.specs.Past.{IsPast, PastState, Undoes, brought_back, numbers_of, past_redone, piece_with, plain_machine, point_at, present, redone}
use Rattle.orca_session.specs.Views.{past_of}
use Rattle.orca_session.proofs.PastLemmas.{undoes-nothing}
use Rattle.orca_session.proofs.RedoLemmas.{IsPast-redone, fits-tail, length-redone, next-with, point-redone, point-with, present-redone, redone-parts, seed-with, silent-hush, some-entry, tick-with}
use Rattle.orca_session.proofs.RedoPrices.{AreBack, back-all, back-cells, back-due, back-next, back-numbers, back-pays, back-start}
use Rattle.orca_session.proofs.past.Past.redo.Given.{Over}
use Rattle.orca_session.proofs.past.Past.redo.Goals as goal

pub loop-at-init : goal.loop-at-init
loop-at-init g c =
    let p : PastState = c.args.self.now in
    let past : IsPast p = subst IsPast c.self.view_is c.self.invariant in
    record {
      sheet = c.requires.sheet;
      tick = c.requires.tick;
      same = ap (λ (q : PastState). record q { points = c.drop_above.new.self }) c.self.view_is;
      points = back-start p c.drop_above.new.self past c.requires.some
          (c.drop_above.ensures
          ∙ (ap (λ (n : ℕ). points_dropped c.self.inside.checkpoints (n - 1))
          c.len-len.ensures.len
          ∙ ap (λ (q : PastState). points_dropped q.points (length q.trail.entries - 1))
          c.self.view_is));
      price = omega arith;
    }

pub do_again-tick-requires-clause-fits : goal.do_again-tick-requires-clause-fits
do_again-tick-requires-clause-fits g c =
    subst (λ (s : Sheet). FitsIn s.dims c.unwrap-entry.result.now)
    (sym c.loop-at.invariant.sheet)
    (fits-tail c.args.self.now c.loop-at.at c.unwrap-entry.result.now
    (subst IsPast c.self.view_is c.self.invariant)
    (ap (λ (q : PastState). slice_get q.trail.tail c.loop-at.at) (sym c.loop-at.invariant.same)
    ∙ rw c.unwrap-entry.ensures at (sym c.tail_entry.ensures.entry)))

pub do_again-tick-requires-clause-early : goal.do_again-tick-requires-clause-early
do_again-tick-requires-clause-early g c =
    let p : PastState = c.args.self.now in
    let past : IsPast p = subst IsPast c.self.view_is c.self.invariant in
    let same = ap (λ (q : PastState). length q.trail.tail) c.self.view_is in
    let group : c.group-group.result ≡ group_of p.trail.tail =
    c.group-group.ensures.group ∙ ap (λ (q : PastState). group_of q.trail.tail) c.self.view_is in
    omega (
      arith,
      c.loop-at.invariant.tick,
      tick-with p c.loop-at.at
          (omega (arith, c.loop-at-test.true, c.group-group.ensures.most, same)),
      past.trail.most,
      c.loop-at-test.true,
      group,
      c.requires.room,
    )

pub keep_due-requires : goal.keep_due-requires
keep_due-requires g c =
    let p : PastState = c.args.self.now in
    let past : IsPast p = subst IsPast c.self.view_is c.self.invariant in
    back-due p c.loop-at.at (c.len-len.result + c.loop-at.at) c.loop-at.self-inside.checkpoints
    c.loop-at.invariant.points (some-entry p past c.requires.some)
    (ap (λ (n : ℕ). n + c.loop-at.at)
    (c.len-len.ensures.len ∙ ap (λ (q : PastState). length q.trail.entries) c.self.view_is))

pub loop-at-preserved : goal.loop-at-preserved
loop-at-preserved g c =
    let p : PastState = c.args.self.now in
    let past : IsPast p = subst IsPast c.self.view_is c.self.invariant in
    let now : Piece = piece_with p c.loop-at.at in
    let inside = c.loop-at.self-inside in
    let seed : now.seed ≡ c.self.inside.seed =
    seed-with p c.loop-at.at ∙ sym (ap (λ (q : PastState). q.seed) c.self.view_is) in
    let is : slice_get p.trail.tail c.loop-at.at ≡ Some c.unwrap-entry.result.now =
    ap (λ (q : PastState). slice_get q.trail.tail c.loop-at.at) (sym c.loop-at.invariant.same)
    ∙ rw c.unwrap-entry.ensures at (sym c.tail_entry.ensures.entry) in
    let next : (apply now c.unwrap-entry.result.now).piece ≡ piece_with p (c.loop-at.at + 1) =
    next-with p c.loop-at.at c.unwrap-entry.result.now is in
    let sheet = sym c.loop-at.invariant.sheet in
    let tick = sym c.loop-at.invariant.tick in
    let after : sheet_of c.do_again-tick.new.board.scan ≡ (piece_with p (c.loop-at.at + 1)).sheet =
    c.do_again-tick.ensures.sheet now sheet tick seed ∙ ap (λ (s : Piece). s.sheet) next in
    let later : c.do_again-tick.result ≡ (piece_with p (c.loop-at.at + 1)).tick =
    c.do_again-tick.ensures.tick now sheet tick seed ∙ ap (λ (s : Piece). s.tick) next in
    let long : c.len-len.result + c.loop-at.at ≡ length p.trail.entries + c.loop-at.at =
    ap (λ (n : ℕ). n + c.loop-at.at)
    (c.len-len.ensures.len ∙ ap (λ (q : PastState). length q.trail.entries) c.self.view_is) in
    let group : c.group-group.result ≡ group_of p.trail.tail =
    c.group-group.ensures.group ∙ ap (λ (q : PastState). group_of q.trail.tail) c.self.view_is in
    let below : c.loop-at.at < group_of p.trail.tail = omega (arith, c.loop-at-test.true, group) in
    let some : 0 < length p.trail.entries = some-entry p past c.requires.some in
    let point : point_at (brought_back p) (c.len-len.result + c.loop-at.at)
    ≡ record {
      sheet = (piece_with p (c.loop-at.at + 1)).sheet;
      tick = (piece_with p (c.loop-at.at + 1)).tick;
    } =
    point-with p (c.loop-at.at + 1) (c.len-len.result + c.loop-at.at) past c.requires.some
    (omega (arith, below)) (omega (arith, long, some)) in
    record {
      sheet = after;
      tick = later;
      same = ap (λ (q : PastState). record q { points = c.keep_due.new.checkpoints })
          c.loop-at.invariant.same;
      points = back-next p c.loop-at.at (c.len-len.result + c.loop-at.at)
          inside.checkpoints c.keep_due.new.checkpoints _ past c.loop-at.invariant.points
          c.keep_due.ensures.all some (omega (arith, below)) long
          (ap (λ (s : Sheet). record { sheet = s; tick = c.do_again-tick.result }) after
          ∙ (ap (λ (t : ℕ). record {
            sheet = (piece_with p (c.loop-at.at + 1)).sheet;
            tick = t;
          }) later
          ∙ sym point))
          c.keep_due.ensures.points;
      price = back-pays p c.loop-at.at c.unwrap-entry.result.now _ _ _ past c.requires.some below is
          c.loop-at.invariant.price
          (omega (
            arith,
            c.do_again-tick.ensures.price now sheet tick seed,
            back-cells p c.loop-at.at (c.len-len.result + c.loop-at.at) inside.checkpoints
                (sheet_of c.do_again-tick.new.board.scan) c.do_again-tick.new.steps
                c.keep_due.new.steps past c.loop-at.invariant.points long
                (after ∙ sym (ap (λ (x : Point). x.sheet) point)) c.keep_due.ensures.steps,
          ));
    }

pub keep_due-requires-2 : goal.keep_due-requires-2
keep_due-requires-2 g c =
    let p : PastState = c.args.self.now in
    let past : IsPast p = subst IsPast c.self.view_is c.self.invariant in
    let all : c.loop-at.at ≡ c.group-group.result =
    omega (arith, c.loop-at-test.false, c.loop-at.auto.at-end) in
    back-due p c.loop-at.at (c.len-len.result + c.group-group.result)
    c.loop-at.self-inside.checkpoints c.loop-at.invariant.points
    (some-entry p past c.requires.some)
    (omega (
      arith,
      all,
      c.len-len.ensures.len,
      ap (λ (q : PastState). length q.trail.entries) c.self.view_is,
    ))

past : (g : Over) (c : goal.After-keep_due-2 g) → IsPast c.args.self.now
past g c = subst IsPast c.self.view_is c.self.invariant

-- the whole group came back
group : (g : Over) (c : goal.After-keep_due-2 g)
    → c.group-group.result ≡ group_of c.args.self.now.trail.tail
group g c =
    c.group-group.ensures.group ∙ ap (λ (q : PastState). group_of q.trail.tail) c.self.view_is

all : (g : Over) (c : goal.After-keep_due-2 g)
    → c.loop-at.at ≡ group_of c.args.self.now.trail.tail
all g c = omega (arith, c.loop-at-test.false, c.loop-at.auto.at-end, group g c)

long : (g : Over) (c : goal.After-keep_due-2 g)
    → c.len-len.result + c.group-group.result
    ≡ length c.args.self.now.trail.entries + group_of c.args.self.now.trail.tail
long g c =
    omega (
      arith,
      c.len-len.ensures.len,
      ap (λ (q : PastState). length q.trail.entries) c.self.view_is,
      group g c,
    )

-- the board and the tick are those after the redo
sheet : (g : Over) (c : goal.After-keep_due-2 g)
    → sheet_of c.loop-at.board.scan ≡ (redone c.args.self.now).sheet
sheet g c =
    c.loop-at.invariant.sheet ∙ ap (λ (n : ℕ). (piece_with c.args.self.now n).sheet) (all g c)

tick : (g : Over) (c : goal.After-keep_due-2 g) → c.loop-at.tick ≡ (redone c.args.self.now).tick
tick g c =
    c.loop-at.invariant.tick ∙ ap (λ (n : ℕ). (piece_with c.args.self.now n).tick) (all g c)

-- the checkpoints before the last Hush, and after it
way : (g : Over) (c : goal.After-keep_due-2 g)
    → AreBack c.args.self.now (group_of c.args.self.now.trail.tail)
    c.loop-at.self-inside.checkpoints
way g c =
    subst (λ (n : ℕ). AreBack c.args.self.now n c.loop-at.self-inside.checkpoints) (all g c)
    c.loop-at.invariant.points

point : (g : Over) (c : goal.After-keep_due-2 g)
    → point_at (brought_back c.args.self.now) (c.len-len.result + c.group-group.result)
    ≡ record { sheet = (redone c.args.self.now).sheet; tick = (redone c.args.self.now).tick }
point g c =
    point-redone c.args.self.now (c.len-len.result + c.group-group.result) (past g c)
    c.requires.some (long g c)

back : (g : Over) (c : goal.After-keep_due-2 g)
    → AreBack c.args.self.now (group_of c.args.self.now.trail.tail + 1)
    c.keep_due-2.new.checkpoints
back g c =
    let p : PastState = c.args.self.now in
    back-next p (group_of p.trail.tail) (c.len-len.result + c.group-group.result)
    c.loop-at.self-inside.checkpoints c.keep_due-2.new.checkpoints _ (past g c) (way g c)
    c.keep_due-2.ensures.all (some-entry p (past g c) c.requires.some) (omega arith) (long g c)
    (ap (λ (s : Sheet). record { sheet = s; tick = c.loop-at.tick }) (sheet g c)
    ∙ (ap (λ (t : ℕ). record { sheet = (redone p).sheet; tick = t }) (tick g c)
    ∙ sym (point g c)))
    c.keep_due-2.ensures.points

-- the history is that of a redo
trail : (g : Over) (c : goal.After-keep_due-2 g)
    → c.redo-self-inside.new.self ≡ trail_redone c.args.self.now.trail c.empty-patch.result
trail g c =
    c.redo-self-inside.ensures.redone
    ∙ ap (λ (q : PastState). trail_redone q.trail c.empty-patch.result) c.loop-at.invariant.same

-- the parts are those of a redo
parts : (g : Over) (c : goal.After-keep_due-2 g)
    → record (past_of c.loop-at.self-inside) {
      trail = c.redo-self-inside.new.self;
      points = c.keep_due-2.new.checkpoints;
      peak = c.max-self-inside.result;
    }
    ≡ past_redone c.args.self.now c.empty-patch.result c.keep_due-2.new.checkpoints
parts g c =
    let p : PastState = c.args.self.now in
    let most : c.max-self-inside.result ≡ max p.peak (length c.redo-self-inside.new.self.entries) =
    c.max-self-inside.ensures
    ∙ (ap (λ (q : PastState). max q.peak (c.len-len.result + c.group-group.result))
    c.loop-at.invariant.same
    ∙ ap (max p.peak) (long g c
    ∙ sym (ap (λ (t : Trail). length t.entries) (trail g c)
    ∙ length-redone p c.empty-patch.result c.keep_due-2.new.checkpoints (past g c)
    c.requires.some))) in
    ap (λ (q : PastState). record q {
      trail = c.redo-self-inside.new.self;
      points = c.keep_due-2.new.checkpoints;
      peak = c.max-self-inside.result;
    }) c.loop-at.invariant.same
    ∙ redone-parts p c.empty-patch.result c.keep_due-2.new.checkpoints c.redo-self-inside.new.self
    c.max-self-inside.result (past g c) c.requires.some (trail g c) most

-- the patch is that of no change
patch : (g : Over) (c : goal.After-keep_due-2 g)
    → c.empty-patch.result ≡ no_change c.loop-at.board.scan.dims c.loop-at.tick
patch g c =
    c.empty-patch.ensures
    ∙ ap (λ (d : Size). no_change d c.loop-at.tick) c.dims.ensures.size

-- it leads from the Hush back to before it
undoes : (g : Over) (c : goal.After-keep_due-2 g)
    → Undoes c.empty-patch.result (redone c.args.self.now) (redone c.args.self.now) 0
undoes g c =
    let now : Piece = redone c.args.self.now in
    subst (λ (b : Before). Undoes b now now 0) (sym (patch g c))
    (undoes-nothing c.touch_law.ensures.both (sheet_of c.loop-at.board.scan) c.loop-at.tick now 0
    c.dims.ensures.whole (sheet g c) (tick g c))

pub invariant_of-self : goal.invariant_of-self
invariant_of-self g c =
    let p : PastState = c.args.self.now in
    subst IsPast (sym (parts g c))
    (IsPast-redone p c.empty-patch.result c.keep_due-2.new.checkpoints (past g c) c.requires.some
    c.patch_laws.ensures.redone (undoes g c)
    (subst (λ (n : ℕ). AreOf (point_at (brought_back p)) n (brought_back p).peak
    c.keep_due-2.new.checkpoints)
    (omega (arith, some-entry p (past g c) c.requires.some)) (back g c).are)
    (subst IsTrail (trail g c) c.redo-self-inside.ensures.trail))

pub returns-clause-present : goal.returns-clause-present
returns-clause-present g c =
    ap present (parts g c)
    ∙ present-redone c.args.self.now c.empty-patch.result c.keep_due-2.new.checkpoints (past g c)
    c.requires.some

pub returns-clause-silent : goal.returns-clause-silent
returns-clause-silent g c = silent-hush c.args.self.now (past g c) c.requires.some

pub returns-clause-numbers : goal.returns-clause-numbers
returns-clause-numbers g c =
    subst (λ (q : PastState). numbers_of q
    ≡ kept_redone (plain_machine q) (numbers_of c.args.self.now) (group_of c.args.self.now.trail.tail))
    (sym (parts g c))
    (back-numbers c.args.self.now c.empty-patch.result c.keep_due-2.new.checkpoints (past g c)
    c.requires.some (back g c))

pub returns-clause-price : goal.returns-clause-price
returns-clause-price g c =
    let p : PastState = c.args.self.now in
    let before = subst (λ (n : ℕ). c.loop-at.steps + residue c.loop-at.board
    ≤ c.args.steps.now + residue c.args.board.now
    + total price (plain_machine (brought_back p)) (length p.trail.entries - 1)
    (length p.trail.entries - 1 + n)
    + sum_by (kept_cells p.points.spacing (plain_machine (brought_back p)))
    (range_with_len (length p.trail.entries) n)) (all g c) c.loop-at.invariant.price in
    subst (λ (q : PastState). c.keep_due-2.new.steps + residue c.loop-at.board
    ≤ c.args.steps.now + residue c.args.board.now
    + redo_price (plain_machine q) (numbers_of p) (group_of p.trail.tail))
    (sym (parts g c))
    (back-all p c.empty-patch.result c.keep_due-2.new.checkpoints _ _ _ (past g c)
    c.requires.some before
    (omega (
      arith,
      back-cells p (group_of p.trail.tail) (c.len-len.result + c.group-group.result)
          c.loop-at.self-inside.checkpoints (sheet_of c.loop-at.board.scan) c.loop-at.steps
          c.keep_due-2.new.steps (past g c) (way g c) (long g c)
          (sheet g c ∙ sym (ap (λ (x : Point). x.sheet) (point g c))) c.keep_due-2.ensures.steps,
    )))

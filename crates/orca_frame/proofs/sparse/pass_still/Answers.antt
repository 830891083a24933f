use Rattle.std.proofs.Common.{◌+◌, arith, ap, sym, ◌∙◌}
use Rattle.orca_base.specs.Grids.{Size}
use Rattle.orca_frame.proofs.FrameLemmas.{dims_slate}
use Rattle.orca_frame.proofs.SkipLemmas.{held, later_of, live_of, next_reached, still_visited}
use Rattle.orca_frame.proofs.sparse.pass_still.Goals as goal

pub is_still-requires : goal.is_still-requires
is_still-requires g c =
    (held _ _ _ _ _ _ c.in-Some.is c.loop-found.invariant.reached c.requires.row
    c.loop-found.invariant.live).inside

pub next-found-requires-clause-row : goal.next-found-requires-clause-row
next-found-requires-clause-row g c =
    let same = dims_slate _ _ _ _ c.requires.reached in
    omega (arith, c.requires.row, ap (λ (d : Size). d.h) same)

pub loop-found-smaller : goal.loop-found-smaller
loop-found-smaller g c =
    let found = held _ _ _ _ _ _ c.in-Some.is c.loop-found.invariant.reached c.requires.row
    c.loop-found.invariant.live in
    let behind = rw c.in-Some.is at c.loop-found.invariant.behind in
    let later = later_of (g.B.Bench.slate c.args.board.now).scan _ _
    (g.B.Bench.slate c.args.board.now).began.dims.w _
    (omega (arith, found.column, behind)) c.next-found.ensures.found in
    rw c.in-Some.is (omega (arith, found.column, behind, later))

pub loop-found-preserved : goal.loop-found-preserved
loop-found-preserved g c =
    let slate = g.B.Bench.slate c.args.board.now in
    let found = held _ _ _ _ _ _ c.in-Some.is c.loop-found.invariant.reached c.requires.row
    c.loop-found.invariant.live in
    let after = still_visited _ _ _ _ _ _ found c.requires.row
    (sym c.is_still.ensures.still ∙ c.if-not-is_still.false) in
    let behind = rw c.in-Some.is at c.loop-found.invariant.behind in
    let passed = next_reached _ _ _ _ (c.in-Some.x + 1) _ after.reached c.requires.row
    (omega (arith, found.column)) (rw behind at c.next-found.ensures.found)
    (rw behind at c.next-found.ensures.passed) in
    let later = later_of slate.scan _ _ slate.began.dims.w _ (omega (arith, found.column, behind))
    c.next-found.ensures.found in
    record {
      reached = passed.0;
      live = live_of slate.scan _ _ _ c.next-found.ensures.found;
      behind = c.next-found.ensures.behind;
      later = omega (arith, rw c.in-Some.is at c.loop-found.invariant.later, behind, later);
      most = omega (
        arith,
        rw c.in-Some.is at c.loop-found.invariant.most,
        c.is_still.ensures.steps,
        c.next-found.ensures.steps,
        after.busy,
        passed.1,
      );
      least = omega (
        arith,
        c.loop-found.invariant.least,
        c.is_still.ensures.steps,
        c.next-found.ensures.steps,
      );
    }

use Rattle.std.proofs.Common.{◌≡◌, ◌+◌, ◌*◌, ℕ, ap, arith, ◌∙◌}
use Rattle.orca_base.specs.Grids.{Size, Sheet}
use Rattle.orca_op.specs.Slate.{Slate}
use Rattle.orca_frame.specs.Frames.{slate_after_places}
use Rattle.orca_frame.proofs.FrameLemmas.{dims_slate, room_slate}
use Rattle.orca_frame.proofs.SkipLemmas.{held, later_of, live_of, next_reached, visited}
use Rattle.orca_frame.proofs.sparse.walk_row.Goals as goal

pub first-found-requires-clause-row : goal.first-found-requires-clause-row
first-found-requires-clause-row g c =
    let same = dims_slate _ _ _ _ c.requires.reached in
    omega (arith, c.requires.row, ap (λ (d : Size). d.h) same)

pub loop-x-init : goal.loop-x-init
loop-x-init g c =
    let sheet : Sheet = (g.B.Bench.slate c.args.board.now).began in
    let start : c.args.row * sheet.dims.w ≡ c.args.row * sheet.dims.w + c.start-cursor.result =
    omega (arith, c.start-cursor.ensures) in
    let passed = next_reached _ _ _ _ _ _
    (c.requires.reached ∙ ap (λ (n : ℕ). slate_after_places n sheet c.args.now) start)
    c.requires.row (omega (arith, c.start-cursor.ensures)) c.first-found.ensures.found
    c.first-found.ensures.passed in
    record {
      reached = passed.0;
      live = live_of (g.B.Bench.slate c.args.board.now).scan _ _ _ c.first-found.ensures.found;
      behind = c.first-found.ensures.behind;
      most = omega (arith, c.first-found.ensures.steps, rw (← start) at passed.1);
      least = omega (arith, c.first-found.ensures.steps);
    }

pub visit_awake-requires-clause-inside : goal.visit_awake-requires-clause-inside
visit_awake-requires-clause-inside g c =
    let same = ap (λ (d : Slate). d.began) c.loop-x.invariant.reached in
    (held _ _ _ _ _ _ c.in-Some.is (rw same at c.pass_still.ensures.reached) c.requires.row
    c.pass_still.ensures.live).inside

pub visit_awake-requires-clause-room : goal.visit_awake-requires-clause-room
visit_awake-requires-clause-room g c =
    let same = ap (λ (d : Slate). d.began) c.loop-x.invariant.reached in
    let found = held _ _ _ _ _ _ c.in-Some.is (rw same at c.pass_still.ensures.reached) c.requires.row
    c.pass_still.ensures.live in
    room_slate _ _ _ _ found.reached c.table_laws.ensures c.requires.sheet found.below

pub next-found-requires-clause-row : goal.next-found-requires-clause-row
next-found-requires-clause-row g c =
    let same = ap (λ (d : Slate). d.began) c.loop-x.invariant.reached in
    let found = held _ _ _ _ _ _ c.in-Some.is (rw same at c.pass_still.ensures.reached) c.requires.row
    c.pass_still.ensures.live in
    let after = visited _ _ _ _ _ _ _ found c.requires.row c.visit_awake.ensures.deeds in
    let size = dims_slate _ _ _ _ after.reached in
    omega (arith, c.requires.row, ap (λ (d : Size). d.h) size)

pub next-found-requires-clause-column : goal.next-found-requires-clause-column
next-found-requires-clause-column g c =
    let same = ap (λ (d : Slate). d.began) c.loop-x.invariant.reached in
    let found = held _ _ _ _ _ _ c.in-Some.is (rw same at c.pass_still.ensures.reached) c.requires.row
    c.pass_still.ensures.live in
    let after = visited _ _ _ _ _ _ _ found c.requires.row c.visit_awake.ensures.deeds in
    let size = dims_slate _ _ _ _ after.reached in
    let behind = rw c.in-Some.is at c.pass_still.ensures.behind in
    omega (arith, found.column, behind, ap (λ (d : Size). d.w) size)

pub loop-x-smaller : goal.loop-x-smaller
loop-x-smaller g c =
    let same = ap (λ (d : Slate). d.began) c.loop-x.invariant.reached in
    let found = held _ _ _ _ _ _ c.in-Some.is (rw same at c.pass_still.ensures.reached) c.requires.row
    c.pass_still.ensures.live in
    let behind = rw c.in-Some.is at c.pass_still.ensures.behind in
    let later = later_of (g.B.Bench.slate c.visit_awake.new.bench).scan _ _
    (g.B.Bench.slate c.args.board.now).began.dims.w _
    (omega (arith, found.column, behind)) c.next-found.ensures.found in
    omega (arith, found.column, behind, later, rw (same, c.in-Some.is) at c.pass_still.ensures.later)

pub loop-x-preserved : goal.loop-x-preserved
loop-x-preserved g c =
    let same = ap (λ (d : Slate). d.began) c.loop-x.invariant.reached in
    let found = held _ _ _ _ _ _ c.in-Some.is (rw same at c.pass_still.ensures.reached) c.requires.row
    c.pass_still.ensures.live in
    let after = visited _ _ _ _ _ _ _ found c.requires.row c.visit_awake.ensures.deeds in
    let behind = rw c.in-Some.is at c.pass_still.ensures.behind in
    let passed = next_reached _ _ _ _ (c.in-Some.x + 1) _ after.reached c.requires.row
    (omega (arith, found.column)) (rw behind at c.next-found.ensures.found)
    (rw behind at c.next-found.ensures.passed) in
    record {
      reached = passed.0;
      live = live_of (g.B.Bench.slate c.visit_awake.new.bench).scan _ _ _
          c.next-found.ensures.found;
      behind = c.next-found.ensures.behind;
      most = omega (
        arith,
        c.loop-x.invariant.most,
        rw (same, c.in-Some.is) at c.pass_still.ensures.most,
        c.visit_awake.ensures.steps,
        c.next-found.ensures.steps,
        after.busy,
        passed.1,
      );
      least = omega (
        arith,
        c.loop-x.invariant.least,
        c.pass_still.ensures.least,
        c.visit_awake.ensures.later,
        c.next-found.ensures.steps,
      );
    }

use Rattle.std.proofs.Common.{◌≡◌, ◌+◌, ◌-◌, ◌*◌, ◌≤◌}
use Rattle.std.specs.Prelude.{IfSome, IsTrue, unwrap_or}
use Rattle.orca_base.specs.declared.limits.TheConstants.{MAX_VISIT_STEPS}
use Rattle.orca_op.specs.Live.{is_live}
use Rattle.orca_op.specs.Scan.{busy_of}
use Rattle.orca_frame.specs.Frames.{slate_after_places}
use Rattle.orca_frame.proofs.sparse.walk_row.Given as goal

-- the columns before the next operator were visited or passed over, and the cursor stands after it
abbrev pub invariant-loop-x : goal.invariant-loop-x
invariant-loop-x g l =
    let slate = g.B.Bench.slate l.board in
    let sheet = (g.B.Bench.slate l.fn.board).began in
    let start = l.row * sheet.dims.w in
    record {
      reached : slate ≡ slate_after_places (start + unwrap_or l.found sheet.dims.w) sheet l.now;
      live : IfSome l.found (λ x. IsTrue (is_live slate.scan l.row x));
      behind : IfSome l.found (λ x. l.cursor ≡ x + 1);
      most : l.steps + MAX_VISIT_STEPS * busy_of start sheet l.now ≤ l.fn.steps + 1
          + MAX_VISIT_STEPS * busy_of (start + unwrap_or l.found sheet.dims.w) sheet l.now;
      least : l.fn.steps + 1 ≤ l.steps;
    }

abbrev pub decreases-loop-x : goal.decreases-loop-x
decreases-loop-x g l =
    let sheet = (g.B.Bench.slate l.fn.board).began in
    sheet.dims.w - unwrap_or l.found sheet.dims.w

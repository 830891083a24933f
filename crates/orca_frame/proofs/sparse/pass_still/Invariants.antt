use Rattle.std.proofs.Common.{◌≡◌, ◌+◌, ◌-◌, ◌*◌, ◌≤◌}
use Rattle.std.specs.Prelude.{IfSome, IsTrue, unwrap_or}
use Rattle.orca_base.specs.declared.limits.TheConstants.{MAX_VISIT_STEPS}
use Rattle.orca_op.specs.Live.{is_live}
use Rattle.orca_op.specs.Scan.{busy_of}
use Rattle.orca_frame.specs.Frames.{slate_after_places}
use Rattle.orca_frame.proofs.sparse.pass_still.Given as goal

-- the columns before the operator that was found were visited or passed over, and the cursor stands
-- after it
abbrev pub invariant-loop-found : goal.invariant-loop-found
invariant-loop-found g l =
    let slate = g.B.Bench.slate l.board in
    let sheet = slate.began in
    let start = l.row * sheet.dims.w in
    record {
      reached : slate ≡ slate_after_places (start + unwrap_or l.found sheet.dims.w) sheet l.fn.now;
      live : IfSome l.found (λ x. IsTrue (is_live slate.scan l.row x));
      behind : IfSome l.found (λ x. l.cursor ≡ x + 1);
      later : unwrap_or l.fn.from sheet.dims.w ≤ unwrap_or l.found sheet.dims.w;
      most : l.steps + MAX_VISIT_STEPS * busy_of (start + unwrap_or l.fn.from sheet.dims.w) sheet l.fn.now
          ≤ l.fn.steps + MAX_VISIT_STEPS * busy_of (start + unwrap_or l.found sheet.dims.w) sheet
          l.fn.now;
      least : l.fn.steps ≤ l.steps;
    }

abbrev pub decreases-loop-found : goal.decreases-loop-found
decreases-loop-found g l =
    let sheet = (g.B.Bench.slate l.board).began in
    sheet.dims.w - unwrap_or l.found sheet.dims.w

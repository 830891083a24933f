use Rattle.std.proofs.Common.{◌≡◌, ◌+◌, ◌*◌, ◌≤◌}
use Rattle.orca_base.specs.declared.limits.TheConstants.{MAX_VISIT_STEPS}
use Rattle.orca_op.specs.Slate.{residue}
use Rattle.orca_op.specs.Scan.{busy_of}
use Rattle.orca_op.specs.State.{sheet_of}
use Rattle.orca_frame.specs.Frames.{slate_after_places}
use Rattle.orca_frame.proofs.sparse.frame.Given as goal

-- the rows before `row` were walked
abbrev pub invariant-loop-row : goal.invariant-loop-row
invariant-loop-row g l =
    let old = g.B.Bench.slate l.fn.board in
    let sheet = sheet_of old.scan in
    record {
      reached : g.B.Bench.slate l.board ≡ slate_after_places (l.row * sheet.dims.w) sheet l.now;
      most : l.steps ≤ l.fn.steps + 1 + residue old + l.row + MAX_VISIT_STEPS * busy_of
          (l.row * sheet.dims.w) sheet l.now;
      least : l.fn.steps + 1 + l.row ≤ l.steps;
    }

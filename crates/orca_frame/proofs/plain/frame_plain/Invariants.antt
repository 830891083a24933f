use Rattle.std.proofs.Common.{◌≡◌, ◌+◌, ◌*◌, ◌≤◌}
use Rattle.orca_base.specs.declared.limits.TheConstants.{MAX_STEPS}
use Rattle.orca_op.specs.Slate.{residue}
use Rattle.orca_op.specs.Scan.{busy_of}
use Rattle.orca_op.specs.State.{sheet_of}
use Rattle.orca_frame.specs.Frames.{slate_after_places, looks}
use Rattle.orca_frame.proofs.plain.frame_plain.Given as goal

-- the first i places were visited
abbrev pub invariant-loop-i : goal.invariant-loop-i
invariant-loop-i g l =
    let old = g.B.Bench.slate l.fn.bench in
    record {
      slate : g.B.Bench.slate l.bench ≡ slate_after_places l.i (sheet_of old.scan) l.now;
      most : l.steps ≤ l.fn.steps + 1 + residue old + looks * l.i + MAX_STEPS * busy_of l.i
          (sheet_of old.scan) l.now;
      least : l.fn.steps + 1 + residue old + l.i ≤ l.steps;
    }

use Rattle.std.proofs.Common.{ap, sym, ◌∙◌}
use Rattle.orca_base.specs.MarkBits.{bits_of, bits-back}
use Rattle.orca_base.proofs.marks.MarksPartialEq.eq.Goals as goal

-- src/marks.rt:24:30
pub returns : goal.returns
returns c =
    let e = c.eq.ensures in
    let va = c.t1-1.view_is in
    let vb = c.t2-1.view_is in
    let a = ap bits_of (sym va) ∙ bits-back c.t1-1.inside.bits c.t1-1.invariant in
    let b = ap bits_of (sym vb) ∙ bits-back c.t2-1.inside.bits c.t2-1.invariant in
    rw (a, b) e

use Rattle.std.proofs.Common.{◌∙◌, arith}
use Rattle.orca_cues.proofs.Parting.{whole-back, whole-here, whole-none}
use Rattle.orca_cues.proofs.rooms.whole_lines.Goals as goal
use Rattle.orca_cues.proofs.rooms.whole_lines.Goals.{then-loop-end-test+else-text-end-ne10, else-loop-end-test}

pub loop-end-preserved : goal.loop-end-preserved
loop-end-preserved c =
    let loop = c.loop-end.invariant in record {
      within = omega (arith, loop.within);
      same = whole-back c.args.text.now _ c.loop-end-test.true loop.within c.if-text-end-ne10.true
          ∙ loop.same;
    }

pub returns-clause-lines : goal.returns-clause-lines
returns-clause-lines c =
    let loop = c.loop-end.invariant in
    elim c.loop-end-test.branch [
      | then-loop-end-test+else-text-end-ne10 w ↦
          whole-here c.args.text.now _ w.loop-end-test.true loop.within w.if-text-end-ne10.false
          ∙ loop.same
      | else-loop-end-test w ↦ whole-none c.args.text.now _ w.loop-end-test.false ∙ loop.same
    ]

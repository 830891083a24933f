use Rattle.std.proofs.Common.{arith, ◌∙◌}
use Rattle.std.proofs.lemmas.List.{length-set}
use Rattle.orca_board.proofs.RowLemmas.{emptied-more}
use Rattle.orca_board.proofs.field.wipe_row.Goals as goal

pub loop-i-preserved : goal.loop-i-preserved
loop-i-preserved c = record {
  whole = rw c.renew.ensures.cells
      (length-set c.loop-i.cells _ _ ∙ c.loop-i.invariant.whole);
  cells = λ n. rw c.renew.ensures.cells (emptied-more c.loop-i.cells _ c.args.first c.loop-i.i n
      (omega (arith, c.loop-i.auto.i))
      (omega (arith, c.loop-i-test.true, c.requires.fits, c.loop-i.invariant.whole))
      (c.loop-i.invariant.cells n));
  live = c.renew.ensures.live;
}
